-- How far the numbers of an evaluation go: every place lies in the text, and every refusal is a listed one.
use mathlib.Core.Bool.{◌&&◌}
use mathlib.Core.List.Memᴰ
use mathlib.Core.List.Memᴰ.{head}
use mathlib.Core.List.{List, Memᴰ}
use mathlib.Core.Path.{◌≡◌, refl, sym, subst}
use Prim.Native.Nat.{ℕ, zero, suc, ◌≤◌}
use native.Mathlib.Omega.{arith}
use lib.Dec.{eqb}
use lib.ListN.{length}
use Rattle.paper.specs.Refusals.{no_digit, bad_base, too_big, unknown_name, too_deep, allowance_spent, bad_expression, zero_divisor, not_an_integer, over_length, longest, refusal_number}
use Rattle.paper.specs.Traces.{fault_number, Trace, ended as end_at, Run, finished, refused, run, run_place, allowed}
use Rattle.paper.specs.declared.refusals.Refusal.{Refusal}
use Rattle.paper.specs.declared.faults.Fault.{Fault}
use Rattle.paper.specs.declared.faults.Fault.TheVariants.{TooDeep, BadExpression}
use Rattle.paper.proofs.Choice.{either}
use Rattle.paper.proofs.Told.{Told, run_told}
use Rattle.paper.proofs.Placed.{Placed, ended_at, faults_at, asks_on, spends_at, run_placed}
use Rattle.paper.proofs.Listed.{member, Listed, ended_listed, faults_listed, asks_listed, spends_listed, RunListed, run_listed}
use Rattle.paper.proofs.DemandThree.{refused_number}
use Rattle.variables.specs.Judgements.{Judgement, good, long_text, bad_table, judgement}
use Rattle.variables.specs.Names.{Meaning, unknown, string_of, integer_of, macro_of, names_of}
use Rattle.variables.proofs.Judging as Judging
use Rattle.variables.proofs.Bounds.{Within, judged_within}
use Rattle.arithmetic.specs.Operators.{loosest, stands_alone, divides}
use Rattle.tokens.specs.Tokens.{fault_of, token_at}
use Rattle.parts.specs.Links.{Link, binds, none, link_at, wants}
use Rattle.expressions.specs.Trees.{Tree, constant, variable, unary, binary, Parsed, tree, faulty, joined, covered, extended, Deeper, operators_from, level_at, tree_up_to, operand_by, deepest, one_deeper, started_in, operand_at, whole_tree}
use Rattle.expressions.specs.Evaluations.{name_steps, divided, tree_value, steps, evaluation}
use Rattle.expressions.specs.Answers.{Evaluated, reading_of, value_in, evaluated_by, evaluated_over, evaluated, evaluated_number, evaluated_place, met_numbers, evaluate_numbers}
use Rattle.arithmetic.specs.declared.operators.Operator.{Operator}
use Rattle.tokens.specs.declared.Token.{Token}
use Rattle.tokens.specs.declared.Token.TheVariants.{End, Operator as Operates, Number, FaultyNumber, Name, Open, Close, Strange}
use Rattle.parts.specs.declared.behind.Wanted.{Wanted}
use Rattle.parts.specs.declared.behind.Wanted.TheVariants.{ClosingBracket, TextEnd}
use Rattle.tokens.proofs.Places.{stands}
use Rattle.tokens.proofs.Limits.{FaultyIn, token_in}
use Rattle.expressions.proofs.Onward.{binds_by, binds_onward}

-- a fault that an evaluation can be refused for
abbrev Mentioned : Fault → Type 0
Mentioned fault = Memᴰ (fault_number fault) evaluate_numbers

-- a number that the reader refuses is refused with one of three
fault_in : (fault : Fault) → ((why : Refusal) × (fault ≡ fault_of why)) → Mentioned fault
unfolding fault_of
fault_in fault (why, e) =
    subst Mentioned (sym e)
    (either Mentioned (eqb (refusal_number why) no_digit) (λ _. member no_digit evaluate_numbers refl)
    (λ _. either Mentioned (eqb (refusal_number why) bad_base) (λ _. member bad_base evaluate_numbers refl) (λ _. member too_big evaluate_numbers refl)))

module _ (text : List ℕ) where
  abbrev size : ℕ
  size = length text

  -- the places of a tree
  abbrev Inside : Tree → Type 0
  Inside (constant pattern) = Unit {0}
  Inside (variable word place) = place ≤ size
  Inside (unary operator inner) = Inside inner
  Inside (binary operator place lhs rhs) = (place ≤ size) × Inside lhs × Inside rhs

  data Stays : Parsed → Type 0 where
    tree_in : {t : Tree} {next : ℕ} → Inside t → next ≤ size → Stays (tree t next)
    faulty_in : {fault : Fault} {place : ℕ} → Mentioned fault → place ≤ size → Stays (faulty fault place)

  misplaced : {place : ℕ} → place ≤ size → Stays (faulty BadExpression place)
  misplaced p = faulty_in (member bad_expression evaluate_numbers refl) p

  too_deep_in : {place : ℕ} → place ≤ size → Stays (faulty TooDeep place)
  too_deep_in p = faulty_in (member too_deep evaluate_numbers refl) p

  joined_in : (operator : Operator) (place : ℕ) (lhs : Tree) (parsed : Parsed) → place ≤ size → Inside lhs → Stays parsed → Stays (joined operator place lhs parsed)
  joined_in operator place lhs (tree rhs next) p l (tree_in r n) = tree_in {t = binary operator place lhs rhs} (p, l, r) n
  joined_in operator place lhs (faulty fault at) p l (faulty_in m w) = faulty_in m w

  covered_in : (operator : Operator) (parsed : Parsed) → Stays parsed → Stays (covered operator parsed)
  covered_in operator (tree inner next) (tree_in i n) = tree_in i n
  covered_in operator (faulty fault at) (faulty_in m w) = faulty_in m w

  token_starts : (at : ℕ) → at ≤ size → (token_at text at).place ≤ size
  token_starts at h = let s = stands text at h in omega (arith, s.reaches, s.within)

  module _ (level : ℕ) (below : ℕ → Parsed) (tighter : (at : ℕ) → at ≤ size → Stays (below at)) where
    operators_in : (more : ℕ) (parsed : Parsed) → Stays parsed → Stays (operators_from text more level below parsed)
    unfolding operators_from
    operators_in zero parsed s = s
    operators_in (suc more) (faulty fault place) s = s
    operators_in (suc more) (tree lhs here) (tree_in l h) = go (link_at text level here) refl (operators_in more)
      where
        go : (b : Link) → link_at text level here ≡ b → ((parsed : Parsed) → Stays parsed → Stays (operators_from text more level below parsed))
            → Stays (extended b lhs here below (operators_from text more level below))
        go none e rest = tree_in l h
        go (binds operator place next) e rest =
            let p = (binds_by level _ _ place next operator (token_at text here).token e).1 in
            rest (joined operator place lhs (below next))
            (joined_in operator place lhs (below next) (omega (arith, p, token_starts here h)) l (tighter next (binds_onward text level here place next operator e).1))

  level_in : (level : ℕ) (operand : ℕ → Parsed) → ((at : ℕ) → at ≤ size → Stays (operand at)) → (at : ℕ) → at ≤ size → Stays (level_at text level operand at)
  level_in zero operand o at h = o at h
  level_in (suc tighter) operand o at h =
      operators_in (suc tighter) (level_at text tighter operand) (level_in tighter operand o) (suc size) _ (level_in tighter operand o at h)

  up_to_in : (wanted : Wanted) (parsed : Parsed) → Stays parsed → Stays (tree_up_to text wanted parsed)
  up_to_in wanted (faulty fault place) s = s
  up_to_in wanted (tree inner here) (tree_in i h) =
      either Stays (wants wanted (token_at text here).token) (λ _. tree_in i (stands text here h).within) (λ _. misplaced (token_starts here h))

  record Covers (deeper : Deeper) : Type 0 where
    under : (operator : Operator) (place next : ℕ) → place ≤ size → next ≤ size → Stays (deeper.under operator place next)
    bracket : (place next : ℕ) → place ≤ size → next ≤ size → Stays (deeper.bracket place next)

  operand_by_lem : (deeper : Deeper) → Covers deeper → (place next : ℕ) (token : Token) → place ≤ size → FaultyIn size token → next ≤ size
      → Stays (operand_by text deeper token place next)
  operand_by_lem deeper d place next (Number value) a b n = tree_in tt n
  operand_by_lem deeper d place next (FaultyNumber fault digit) a b n = faulty_in (fault_in fault b.0) b.1
  operand_by_lem deeper d place next Name a b n = tree_in a n
  operand_by_lem deeper d place next (Operates operator) a b n =
      either Stays (stands_alone operator) (λ _. d.under operator place next a n) (λ _. misplaced a)
  operand_by_lem deeper d place next Open a b n = d.bracket place next a n
  operand_by_lem deeper d place next End a b n = misplaced a
  operand_by_lem deeper d place next Close a b n = misplaced a
  operand_by_lem deeper d place next Strange a b n = misplaced a

  started_in_lem : (deeper : Deeper) → Covers deeper → (at : ℕ) → at ≤ size → Stays (started_in text deeper at)
  started_in_lem deeper d at h =
      let k = token_at text at in
      operand_by_lem deeper d k.place k.next k.token (token_starts at h) (token_in text at h) (stands text at h).within

  operand_in : (levels at : ℕ) → at ≤ size → Stays (operand_at text levels at)
  unfolding operand_at
  operand_in zero at h = started_in_lem (deepest text) (record { under = λ o p next a n. too_deep_in a; bracket = λ p next a n. too_deep_in a }) at h
  operand_in (suc levels) at h =
      started_in_lem (one_deeper text (operand_at text levels))
      (record {
        under = λ o p next a n. covered_in o _ (operand_in levels next n);
        bracket = λ p next a n. up_to_in ClosingBracket _ (level_in loosest (operand_at text levels) (operand_in levels) next n);
      })
      at h

  whole_in : Stays (whole_tree text)
  unfolding whole_tree
  whole_in = up_to_in TextEnd _ (level_in loosest (operand_at text 16) (operand_in 16) 0 (omega arith))

  -- a name is refused with one of two numbers, or spends a look-up
  name_placed : (m : Meaning) (place : ℕ) (rest : Trace) → place ≤ size → Placed size rest → Placed size (name_steps m place rest)
  name_placed unknown place rest p r = faults_at p
  name_placed (string_of value) place rest p r = faults_at p
  name_placed (macro_of value) place rest p r = faults_at p
  name_placed (integer_of pattern) place rest p r = spends_at p r

  name_listed : (m : Meaning) (place : ℕ) (rest : Trace) → Listed evaluate_numbers rest → Listed evaluate_numbers (name_steps m place rest)
  name_listed unknown place rest r = faults_listed (member unknown_name evaluate_numbers refl)
  name_listed (string_of value) place rest r = faults_listed (member not_an_integer evaluate_numbers refl)
  name_listed (macro_of value) place rest r = faults_listed (member not_an_integer evaluate_numbers refl)
  name_listed (integer_of pattern) place rest r = spends_listed r

  -- the places of an evaluation, and the numbers of its faults
  module _ (names : List ℕ → Meaning) where
    steps_placed : (t : Tree) (rest : Trace) → Inside t → Placed size rest → Placed size (steps names t rest)
    unfolding divided
    steps_placed (constant pattern) rest i r = r
    steps_placed (variable word place) rest i r = asks_on (name_placed (names word) place rest i r)
    steps_placed (unary operator inner) rest i r = steps_placed inner rest i r
    steps_placed (binary operator place lhs rhs) rest i r =
        let last : Trace = divided operator place (tree_value names rhs) rest in
        steps_placed lhs (steps names rhs last) i.1
        (steps_placed rhs last i.2 (either (Placed size) (divides operator && eqb (tree_value names rhs) 0) (λ _. faults_at i.0) (λ _. r)))

    steps_listed : (t : Tree) (rest : Trace) → Listed evaluate_numbers rest → Listed evaluate_numbers (steps names t rest)
    unfolding divided
    steps_listed (constant pattern) rest r = r
    steps_listed (variable word place) rest r = asks_listed (name_listed (names word) place rest r)
    steps_listed (unary operator inner) rest r = steps_listed inner rest r
    steps_listed (binary operator place lhs rhs) rest r =
        let last : Trace = divided operator place (tree_value names rhs) rest in
        steps_listed lhs (steps names rhs last)
        (steps_listed rhs last
        (either (Listed evaluate_numbers) (divides operator && eqb (tree_value names rhs) 0) (λ _. faults_listed (member zero_divisor evaluate_numbers refl)) (λ _. r)))

    evaluation_placed : (parsed : Parsed) → Stays parsed → Placed size (evaluation names parsed)
    evaluation_placed (faulty fault place) (faulty_in m w) = faults_at w
    evaluation_placed (tree t end) (tree_in i e) = steps_placed t (end_at end) i (ended_at e)

    evaluation_listed : (parsed : Parsed) → Stays parsed → Listed evaluate_numbers (evaluation names parsed)
    evaluation_listed (faulty fault place) (faulty_in m w) = faults_listed m
    evaluation_listed (tree t end) (tree_in i e) = steps_listed t (end_at end) ended_listed

module _ (text farm house : List ℕ) where
  -- every place of a reading lies in its text, and every number of its faults is a listed one
  pub reading_placed : Placed (length text) (reading_of text farm house)
  reading_placed = evaluation_placed text (names_of farm house) (whole_tree text) (whole_in text)

  pub reading_listed : Listed evaluate_numbers (reading_of text farm house)
  reading_listed = evaluation_listed text (names_of farm house) (whole_tree text) (whole_in text)

-- every answer's numbers are small enough to pack, and its number is a listed one
pub record Bounded (r : Evaluated) : Type 0 where
  pub number : evaluated_number r ≤ 255
  pub place : evaluated_place r ≤ longest
  pub listed : Memᴰ (evaluated_number r) evaluate_numbers

by_bounded : (r : Run) (value : ℕ) → run_place r ≤ longest → ((number place : ℕ) → r ≡ refused number place → number ≤ 255) → RunListed evaluate_numbers r
    → Told r → Bounded (evaluated_by r value)
by_bounded (finished end left) value p n l t = record { number = omega arith; place = p; listed = head refl }
by_bounded (refused number place) value p n l t =
    record { number = omega (arith, t, n number place refl); place = p; listed = subst (λ m. Memᴰ m evaluate_numbers) (sym t) l }

pub evaluated_bounded : (text farm house : List ℕ) (allowance : ℕ) → Bounded (evaluated text farm house allowance)
unfolding evaluated
evaluated_bounded text farm house allowance = over (judgement text farm house) refl
  where
    over : (j : Judgement) → judgement text farm house ≡ j → Bounded (evaluated_over j (run (reading_of text farm house) (allowed allowance)) (value_in text farm house))
    over good e =
        let t = reading_of text farm house in
        let short = (Judging.read text farm house e).0 in
        let within = run_placed (reading_placed text farm house) (allowed allowance) in
        by_bounded (run t (allowed allowance)) (value_in text farm house) (omega arith)
        (λ number place q. (refused_number t (allowed allowance) number place q).1)
        (run_listed evaluate_numbers (member allowance_spent evaluate_numbers refl) (reading_listed text farm house) (allowed allowance))
        (run_told t (allowed allowance))
    over long_text e = record { number = omega arith; place = omega arith; listed = member over_length evaluate_numbers refl }
    over (bad_table why holder place) e =
        let w = subst Within (Judging.refused text farm house why holder place e).1 (judged_within farm house) in
        record { number = w.0; place = w.1; listed = Memᴰ.append_left met_numbers w.2 }
