-- The walk through a text, symbol by symbol: what holds between two symbols, what each symbol makes of it, and where it ends.
use mathlib.Core.Path.{◌≡◌, refl, ap, ap₂, sym, subst, ◌∙◌}
use mathlib.Core.List.{List, [], ◌∷◌, ◌++◌, append_assoc, append-nil}
use Prim.Native.Nat.{ℕ, zero, suc, ◌+◌, ◌-◌, ◌*◌, ◌≤◌, ◌<◌}
use native.Mathlib.Nat.{add-zero}
use native.Mathlib.Omega.{arith}
use lib.ListN.{length, take, drop, length-append}
use Rattle.std.specs.Prelude.{Result, Ok, Err}
use Rattle.paper.specs.Refusals.{refusal_number, refusal_by}
use Rattle.paper.specs.Traces.{Trace, bytes, run, refused}
use Rattle.paper.specs.declared.TextPlace.{TextPlace}
use Rattle.paper.specs.declared.refusals.Refused.{Refused}
use Rattle.paper.proofs.Refused.{fault_refused}
use Rattle.paper.specs.declared.faults.Fault.{Fault}
use Rattle.variables.specs.Names.{Meaning, names_of}
use Rattle.symbols.specs.Symbols.{symbol_at, first_at, mode_of}
use Rattle.gs.specs.Readings.{Expand, symbol_gives, symbols_from, whole_text}
use Rattle.gs.specs.inner.Steps.{Laid, Passes, Came, came_going, came_refused, Read, read_ended, read_refused, piece_of}
use Rattle.references.specs.References.{referred_in}
use Rattle.symbols.specs.declared.forms.Mode.{Mode}
use Rattle.symbols.specs.declared.forms.Symbol.{Symbol}
use Rattle.symbols.specs.declared.forms.Symbol.TheVariants.{End, Byte, Reference, Faulty}
use Rattle.gs.specs.declared.steps.Carried.{Carried}
use Rattle.gs.proofs.Pieces.{laid_none, laid_more, content_piece}
use Rattle.symbols.proofs.Places.{quote_of, first_stands}

-- a reference that came through
pub record Through (piece : Trace → Trace) (left to far left' : ℕ) (out after : List ℕ) : Type 0 where
  pub given : List ℕ
  pub place : far ≡ to + length given
  pub passes : Passes piece left left' given
  pub laid : Laid out to given after

module _ (piece : Trace → Trace) (left to : ℕ) (out after : List ℕ) where
  through : {c : Carried} → Came piece left to out after (Ok c) → Through piece left to c.to c.left out after
  through (came_going l given p laid) = record { given = given; place = refl; passes = p; laid = laid }

  pub came_through : (r : Result Carried Refused) (c : Carried) → Came piece left to out after r → r ≡ Ok c → Through piece left to c.to c.left out after
  came_through r c came e = through (subst (Came piece left to out after) e came)

  refusal_of : {r : Refused} → Came piece left to out after (Err r)
      → (length after ≡ length out) × ((rest : Trace) → run (piece rest) left ≡ refused (refusal_number r.why) r.at.0)
  refusal_of (came_refused r long refuses) = (long, refuses)

  pub came_to_refusal : (r : Result Carried Refused) (why : Refused) → Came piece left to out after r → r ≡ Err why
      → (length after ≡ length out) × ((rest : Trace) → run (piece rest) left ≡ refused (refusal_number why.why) why.at.0)
  came_to_refusal r why came e = refusal_of (subst (Came piece left to out after) e came)

module _ (names : List ℕ → Meaning) (expand : Expand) (text : List ℕ) (flags left to : ℕ) (out : List ℕ) (mode : Mode) where
  abbrev trace : Trace
  trace = whole_text names expand text flags

  -- what is given so far, and that the reading goes on here
  pub record Walk (after : List ℕ) (here far rest : ℕ) : Type 0 where
    pub more : ℕ
    pub given : List ℕ
    pub inside : here ≤ length text
    pub fuel : length text < here + more
    pub quote : quote_of mode ≤ length text
    pub runs : run trace left ≡ run (symbols_from names more expand text flags mode here) rest
    pub gives : bytes trace ≡ given ++ bytes (symbols_from names more expand text flags mode here)
    pub place : far ≡ to + length given
    pub laid : Laid out to given after
    pub small : length given + 255 * rest ≤ 255 * left + here

  pub start : (here : ℕ) → here ≡ first_at text flags → mode ≡ mode_of text flags → Walk out here to left
  unfolding whole_text
  start here h m =
      let goes : whole_text names expand text flags ≡ symbols_from names (suc (length text)) expand text flags mode here =
      ap₂ (symbols_from names (suc (length text)) expand text flags) (sym m) (sym h) in
      let stands = first_stands text flags in
      let quote_is : quote_of mode ≡ quote_of (mode_of text flags) = ap quote_of m in
      record {
        more = suc (length text);
        given = [];
        inside = omega (arith, h, stands);
        fuel = omega arith;
        quote = omega (arith, quote_is, stands);
        runs = ap (λ t. run t left) goes;
        gives = ap bytes goes;
        place = sym (add-zero to);
        laid = laid_none out to;
        small = omega arith;
      }

  one_symbol : (here less : ℕ) (s : Symbol) → symbol_at text flags mode here ≡ s
      → symbols_from names (suc less) expand text flags mode here ≡ symbol_gives names expand text here s (symbols_from names less expand text flags mode)
  unfolding symbols_from
  one_symbol here less s e = ap (λ s. symbol_gives names expand text here s (symbols_from names less expand text flags mode)) e

  module _ (after : List ℕ) (here far rest : ℕ) where
    -- the symbol here is what the reading goes on with
    pub record Next (s : Symbol) : Type 0 where
      pub less : ℕ
      pub given : List ℕ
      pub fuel : length text < here + suc less
      pub runs : run trace left ≡ run (symbol_gives names expand text here s (symbols_from names less expand text flags mode)) rest
      pub gives : bytes trace ≡ given ++ bytes (symbol_gives names expand text here s (symbols_from names less expand text flags mode))
      pub place : far ≡ to + length given
      pub laid : Laid out to given after
      pub small : length given + 255 * rest ≤ 255 * left + here

    next : (s : Symbol) → Walk after here far rest → symbol_at text flags mode here ≡ s → Next s
    next s w e = go w.more w.fuel w.runs w.gives
      where
        go : (more : ℕ) → length text < here + more → run trace left ≡ run (symbols_from names more expand text flags mode here) rest
            → bytes trace ≡ w.given ++ bytes (symbols_from names more expand text flags mode here) → Next s
        go zero fuel runs gives = absurd (omega (arith, w.inside))
        go (suc less) fuel runs gives =
            let goes : symbols_from names (suc less) expand text flags mode here ≡ symbol_gives names expand text here s (symbols_from names less expand text flags mode) =
            one_symbol here less s e in
            record {
              less = less;
              given = w.given;
              fuel = fuel;
              runs = runs ∙ ap (λ t. run t rest) goes;
              gives = gives ∙ ap (λ t. w.given ++ bytes t) goes;
              place = w.place;
              laid = w.laid;
              small = w.small;
            }

    pub at_end : (e : TextPlace) → Walk after here far rest → symbol_at text flags mode here ≡ End e
        → Read trace (length text) left to out after (Ok (record { end = e; carried = record { to = far; left = rest } }))
    unfolding symbol_gives
    at_end e w s =
        let n = next (End e) w s in
        let all : bytes trace ≡ n.given = n.gives ∙ append-nil n.given in
        subst (λ p. Read trace (length text) left to out after (Ok (record { end = e; carried = record { to = p; left = rest } })))
        (ap (λ l. to + length l) all ∙ sym n.place)
        (read_ended e rest n.runs (omega (arith, n.small, w.inside, ap length all)) (subst (λ l. Laid out to l after) (sym all) n.laid))

    pub at_faulty : (f : Fault) (p : TextPlace) → Walk after here far rest → symbol_at text flags mode here ≡ Faulty f p
        → Read trace (length text) left to out after (Err (record { why = refusal_by f; at = p }))
    unfolding symbol_gives
    at_faulty f p w s =
        let n = next (Faulty f p) w s in
        read_refused (record { why = refusal_by f; at = p }) n.laid.long (n.runs ∙ ap (λ k. refused k p.0) (sym (fault_refused f)))

    pub at_byte : (b nxt : ℕ) (after' : List ℕ) → Walk after here far rest → symbol_at text flags mode here ≡ Byte b nxt
        → here < nxt → nxt ≤ length text → Laid after far (b ∷ []) after' → Walk after' nxt (far + 1) rest
    unfolding symbol_gives
    at_byte b nxt after' w s forward within laid =
        let n = next (Byte b nxt) w s in
        record {
          more = n.less;
          given = n.given ++ (b ∷ []);
          inside = within;
          fuel = omega (arith, n.fuel);
          quote = w.quote;
          runs = n.runs;
          gives = n.gives ∙ sym (append_assoc n.given (b ∷ []) (bytes (symbols_from names n.less expand text flags mode nxt)));
          place = omega (arith, n.place, length-append n.given (b ∷ []));
          laid = laid_more out n.given (b ∷ []) after after' to n.laid (subst (λ p. Laid after p (b ∷ []) after') n.place laid);
          small = omega (arith, n.small, length-append n.given (b ∷ []));
        }

-- a reference, over what names mean in a table
module _ (farm house : List ℕ) (expand : Expand) (text : List ℕ) (flags left to : ℕ) (out : List ℕ) (mode : Mode) (after : List ℕ) (here far rest : ℕ)
    (start end nxt : ℕ) where
  abbrev name : List ℕ
  name = take (end - start) (drop start text)

  abbrev piece : Trace → Trace
  piece = piece_of farm house expand (referred_in farm house name) name here

  abbrev tail : ℕ → Trace
  tail less = symbols_from (names_of farm house) less expand text flags mode nxt

  module _ (w : Walk (names_of farm house) expand text flags left to out mode after here far rest)
      (s : symbol_at text flags mode here ≡ Reference start end nxt) where
    abbrev N : Type 0
    N = Next (names_of farm house) expand text flags left to out mode after here far rest (Reference start end nxt)

    n : N
    n = next (names_of farm house) expand text flags left to out mode after here far rest (Reference start end nxt) w s

    goes : symbol_gives (names_of farm house) expand text here (Reference start end nxt) (symbols_from (names_of farm house) n.less expand text flags mode)
        ≡ piece (tail n.less)
    unfolding symbol_gives
    goes = content_piece farm house name expand here (tail n.less)

    pub at_reference : (far' rest' : ℕ) (after' : List ℕ) → here < nxt → nxt ≤ length text
        → Through piece rest far far' rest' after after' → Walk (names_of farm house) expand text flags left to out mode after' nxt far' rest'
    at_reference far' rest' after' forward within t =
        let g = t.given in
        record {
          more = n.less;
          given = n.given ++ g;
          inside = within;
          fuel = omega (arith, n.fuel);
          quote = w.quote;
          runs = n.runs ∙ ap (λ t. run t rest) goes ∙ t.passes.runs (tail n.less);
          gives =
              n.gives ∙ ap (λ t. n.given ++ bytes t) goes ∙ ap (λ l. n.given ++ l) (t.passes.gives (tail n.less))
              ∙ sym (append_assoc n.given g (bytes (tail n.less)));
          place = omega (arith, n.place, t.place, length-append n.given g);
          laid = laid_more out n.given g after after' to n.laid (subst (λ p. Laid after p g after') n.place t.laid);
          small = omega (arith, n.small, t.passes.small, length-append n.given g);
        }

    pub at_refused : (r : Refused) (after' : List ℕ) → length after' ≡ length after
        → ((rest' : Trace) → run (piece rest') rest ≡ refused (refusal_number r.why) r.at.0)
        → Read (whole_text (names_of farm house) expand text flags) (length text) left to out after' (Err r)
    at_refused r after' long refuses =
        read_refused r (long ∙ n.laid.long) (n.runs ∙ ap (λ t. run t rest) goes ∙ refuses (tail n.less))
