-- What `convert` promises is kept.
use mathlib.Core.Path.{◌≡◌, refl, ap, ap₂, sym, subst, ◌∙◌}
use mathlib.Core.Bool.{Bool, true, false, not, cond}
use mathlib.Core.List.{List, [], ◌++◌, append-nil}
use mathlib.Core.Logic.{◌↔◌}
use Prim.Native.Nat.{ℕ, ◌+◌, ◌-◌, ◌/◌, ◌%◌, ◌≤◌}
use native.Mathlib.Omega.{arith}
use borrow.Author.Tests.{eqb-true, eqb-false}
use lib.Dec.{ltb, eqb}
use lib.ListN.{length, take, drop, length-append}
use lib.Seq.{take-append_seam}
use Rattle.paper.specs.Answers.{in_text, Answer, GrownWhole}
use Rattle.paper.specs.Layings.{terminator, converted_by, converted_answer}
use Rattle.paper.specs.Refusals.{no_room, unknown_call, longest}
use Rattle.paper.proofs.Choice.{clash, same, other, either}
use Rattle.paper.proofs.Laid as Laid
use Rattle.paper.proofs.Laid.{no_room_for, laid, grows_by}
use Rattle.forms.specs.Strings.{Form, used, string}
use Rattle.forms.specs.Calls.{without_x, hex, binary, decimal, bare, decimal_of, Described, unknown, known, ranged, described}
use Rattle.forms.specs.declared.forms.Base.{Base}
use Rattle.forms.specs.declared.forms.Base.TheVariants.{Two, Ten, Sixteen}
use Rattle.forms.specs.declared.forms.Width.TheVariants.{Word}
use Rattle.numbers.specs.Conversions.{answer_in, buffer_in, answer_of, buffer_of}
use Rattle.numbers.proofs.Bounds.{string_short}
use Rattle.reader.specs.Reading.{no_limit, reading, valued, read_number, read_place, read_value}
use Rattle.promises.specs.Leads.{lead}
use Rattle.promises.proofs.ReadBack.{read_back}
use Rattle.promises.specs.Conversions.{OneAnswer, Accepts, needed, Refuses, Refusals, Tells, Exact, OffsetAndFree, Bytes, XForm, Terminated, CharactersAlone, SameCharacters, ReadsBack, LargerRoom, SecondAsk}
use Rattle.promises.proofs.Layings as Layings
use Rattle.promises.proofs.Layings.{accepts_by, refusal_grows}
use Rattle.promises.proofs.Outcomes.{Outcome, refuses, lays, one_form, not_both, outcome}

pub one_answer : OneAnswer
one_answer call value buf after after' r r' c c' = (c.answer ∙ sym c'.answer, c.buffer ∙ sym c'.buffer)

pub accepts : Accepts
accepts call value buf after r c = accepts_by (answer_of call value (length buf)) r c.answer

-- two forms of one call need the same room
same_need : (call value : ℕ) (f g : Form) → described call ≡ known f → described call ≡ known g → needed f value ≡ needed g value
same_need call value f g p q = ap (λ h. needed h value) (one_form call f g p q)

module _ (call value : ℕ) (buf : List ℕ) where
  -- of the one form that a call has
  refused_of : (form : Form) → described call ≡ known form → (a : Answer) (after : List ℕ)
      → Laid.Outcome (string form value) form.terminated buf a after → Refuses call value buf after a
  refused_of form k a after (no_room_for less) =
      record {
        unknown = (λ e. absurd (omega arith), λ e. absurd (not_both call form e k));
        room = (λ _. (form, k, less), λ _. refl);
        accepted = (λ e. absurd (omega arith), λ f. absurd (omega (arith, f.2, same_need call value form f.0 k f.1)));
        kept = λ _. refl;
      }
  refused_of form k a after (laid room) =
      record {
        unknown = (λ e. absurd (omega arith), λ e. absurd (not_both call form e k));
        room = (λ e. absurd (omega arith), λ f. absurd (omega (arith, f.2, same_need call value form f.0 k f.1)));
        accepted = (λ _. (form, k, room), λ _. refl);
        kept = λ n. absurd (n refl);
      }

  refused_as : (a : Answer) (after : List ℕ) → Outcome call value buf a after → Refuses call value buf after a
  refused_as a after (refuses k) =
      record {
        unknown = (λ _. k, λ _. refl);
        room = (λ e. absurd (omega arith), λ f. absurd (not_both call f.0 k f.1));
        accepted = (λ e. absurd (omega arith), λ f. absurd (not_both call f.0 k f.1));
        kept = λ _. refl;
      }
  refused_as a after (lays form k o) = refused_of form k a after o

  -- what an answer says, over the one form that its call has
  abbrev accepted_of : Form → Answer
  accepted_of form =
      record { number = 0; counted = in_text; place = length (string form value); need = needed form value; free = length buf - length (string form value) }

  abbrev no_room_of : Form → Answer
  no_room_of form = record { number = no_room; counted = in_text; place = 0; need = needed form value; free = length buf }

  told_of : (form : Form) → described call ≡ known form → (a : Answer) (after : List ℕ)
      → Laid.Outcome (string form value) form.terminated buf a after → Tells call value (length buf) a
  told_of form k a after (no_room_for less) =
      record {
        accepted = λ f e room. absurd (omega (arith, same_need call value form f k e));
        no_room = λ f e h. ap no_room_of (one_form call form f k e);
        unknown = λ e. absurd (not_both call form e k);
      }
  told_of form k a after (laid room) =
      record {
        accepted = λ f e h. ap accepted_of (one_form call form f k e);
        no_room = λ f e less. absurd (omega (arith, same_need call value form f k e));
        unknown = λ e. absurd (not_both call form e k);
      }

  told : (a : Answer) (after : List ℕ) → Outcome call value buf a after → Tells call value (length buf) a
  told a after (refuses k) =
      record {
        accepted = λ form e room. absurd (not_both call form k e);
        no_room = λ form e less. absurd (not_both call form k e);
        unknown = λ _. refl;
      }
  told a after (lays form k o) = told_of form k a after o

  -- an accepted answer's offset, and what it leaves
  written : (form : Form) (a : Answer) (after : List ℕ) → described call ≡ known form → a.number ≡ 0 → Outcome call value buf a after
      → (a.place ≡ length (string form value)) × (after ≡ string form value ++ (terminator form.terminated ++ drop (needed form value) buf))
  written form a after e accepted (refuses k) = absurd (omega arith)
  written form a after e accepted (lays g k o) =
      subst (λ f. (a.place ≡ length (string f value)) × (after ≡ string f value ++ (terminator f.terminated ++ drop (needed f value) buf)))
      (one_form call g form k e) (Layings.written (string g value) g.terminated buf a after accepted o)

  summed : (a : Answer) (after : List ℕ) → Outcome call value buf a after → a.number ≡ 0 → a.place + a.free ≡ length buf
  summed a after (refuses k) e = absurd (omega arith)
  summed a after (lays form k o) e = Layings.summed (string form value) form.terminated buf a after e o

pub refusals : Refusals
refusals call value buf after r c = refused_as call value buf (converted_answer r) after (outcome call value buf r after c)

pub exact : Exact
exact call value buf after r c = told call value buf (converted_answer r) after (outcome call value buf r after c)

pub offset_and_free : OffsetAndFree
offset_and_free call value buf after r c = summed call value buf (converted_answer r) after (outcome call value buf r after c)

pub bytes : Bytes
bytes call value form buf after r e c accepted = (written call value buf form (converted_answer r) after e accepted (outcome call value buf r after c)).1

-- whether a zero byte stands behind the string of a call, where the call is known
data Ends : Bool → Described → Type 0 where
  no_string : {terminated : Bool} → Ends terminated unknown
  string_of : (form : Form) → Ends form.terminated (known form)

ranged_ends : (c : ℕ) → Ends true (ranged c)
unfolding ranged
ranged_ends c =
    either (Ends true) (ltb c 0xD0) (λ _. no_string)
    (λ _. either (Ends true) (ltb c 0xD5) (λ _. string_of (hex _))
    (λ _. either (Ends true) (ltb c 0xD9) (λ _. string_of (decimal false false true _))
    (λ _. either (Ends true) (ltb c 0xDD) (λ _. string_of (decimal true false true _))
    (λ _. either (Ends true) (ltb c 0xE1) (λ _. string_of (binary _))
    (λ _. either (Ends true) (ltb c 0xE5) (λ _. string_of (decimal false true true _))
    (λ _. either (Ends true) (ltb c 0xE9) (λ _. string_of (decimal true true true _)) (λ _. no_string)))))))

-- the form of a call's number, by whether that is 0x28
abbrev numbered : Bool → ℕ → Described
numbered is-28 c = cond is-28 (known bare) (ranged c)

numbered_ends : (is-28 : Bool) (c : ℕ) → Ends (not is-28) (numbered is-28 c)
numbered_ends true c = string_of bare
numbered_ends false c = ranged_ends c

ends_as : {terminated : Bool} {d : Described} (form : Form) → Ends terminated d → d ≡ known form → form.terminated ≡ terminated
ends_as form no_string e = clash (cc)
ends_as form (string_of f) e = let same : f ≡ form = cc in ap (λ f. f.terminated) (sym same)

-- a call has the form of its number without the X form's bit
form_of : (call n : ℕ) → without_x call ≡ n → described call ≡ numbered (eqb n 0x28) n
unfolding described
form_of call n w = ap (λ n. numbered (eqb n 0x28) n) w

pub terminated : Terminated
terminated call form e = go (eqb (without_x call) 0x28) refl
  where
    ends : form.terminated ≡ not (eqb (without_x call) 0x28)
    ends = ends_as form (numbered_ends (eqb (without_x call) 0x28) (without_x call)) (sym (form_of call (without_x call) refl) ∙ e)

    go : (b : Bool) → eqb (without_x call) 0x28 ≡ b → (form.terminated ≡ false) ↔ (without_x call ≡ 0x28)
    go true is = (λ _. eqb-true (without_x call) 0x28 is, λ _. ends ∙ ap not is)
    go false is =
        let is_terminated : form.terminated ≡ true = ends ∙ ap not is in
        (λ f. clash (cc), λ w. absurd (eqb-false (without_x call) 0x28 is w))

pub characters_alone : CharactersAlone
characters_alone call value buf after r w c =
    let form : described call ≡ known bare = form_of call 0x28 w in
    let alone : needed bare value ≡ length (decimal_of value) = omega arith in
    let told = exact call value buf after r c in
    let refused = refusals call value buf after r c in
    record {
      accepted = λ room. (
        told.accepted bare form (omega arith)
            ∙ ap (λ n. record { number = 0; counted = in_text; place = length (decimal_of value); need = n; free = length buf - length (decimal_of value) }) alone,
        bytes call value bare buf after r form c (refused.accepted.1 (bare, form, omega arith))
            ∙ ap (λ n. decimal_of value ++ drop n buf) alone,
      );
      no_room = λ less. (
        told.no_room bare form (omega arith)
            ∙ ap (λ n. record { number = no_room; counted = in_text; place = 0; need = n; free = length buf }) alone,
        let number = refused.room.1 (bare, form, omega arith) in
            refused.kept (λ e. omega arith),
      );
    }

pub same_characters : SameCharacters
unfolding ranged string
same_characters call value w = (decimal true false true Word, form_of call 0xDC w, refl, refl)

-- a call and its X form have one form
without_bit_17 : (call : ℕ) → call / 131072 % 2 ≡ 0 → without_x (call + 131072) ≡ without_x call
without_bit_17 call plain =
    let with_it : without_x (call + 131072) ≡ call = sym (same ((call + 131072) / 131072 % 2) 1 _ _ (omega arith) (omega arith)) in
    let without_it : without_x call ≡ call = sym (other (call / 131072 % 2) 1 _ _ (λ e. omega arith) refl) in
    with_it ∙ sym without_it

pub x_form : XForm
unfolding answer_of buffer_of
x_form call value buf after after' r r' plain c c' =
    let alike : described call ≡ described (call + 131072) =
    form_of call (without_x call) refl ∙ sym (form_of (call + 131072) (without_x call) (without_bit_17 call plain)) in (
      c.answer ∙ ap (λ d. converted_by (answer_in d value (length buf))) alike ∙ sym c'.answer,
      c.buffer ∙ ap (λ d. buffer_in d value buf) alike ∙ sym c'.buffer,
    )

lead_short : (base : Base) → length (lead base) ≤ 2
lead_short Two = omega arith
lead_short Ten = omega arith
lead_short Sixteen = omega arith

pub reads_back : ReadsBack
reads_back call value form buf after r e unsigned unspaced c accepted option answer read =
    let w = written call value buf form (converted_answer r) after e accepted (outcome call value buf r after c) in
    let text : take (converted_answer r).place after ≡ string form value =
    ap₂ take w.0 w.1 ∙ take-append_seam (string form value) (terminator form.terminated ++ drop (needed form value) buf) in
    let brief : length (lead form.base ++ (string form value ++ [])) ≤ longest =
    simp (append-nil, length-append) (omega (arith, lead_short form.base, string_short form value)) in
    let is : answer ≡ valued (used form value) (length (lead form.base) + (converted_answer r).place) =
    read.answer
    ∙ ap (λ t. reading (lead form.base ++ t) option no_limit) (text ∙ sym (append-nil (string form value)))
    ∙ read_back form unsigned unspaced value [] option (omega arith) brief
    ∙ ap (λ n. valued (used form value) (length (lead form.base) + n)) (sym w.0) in
    record { number = ap read_number is; value = ap read_value is; place = ap read_place is }

module _ (call value more : ℕ) (buf buf' : List ℕ) (longer : length buf' ≡ length buf + more) where
  grown : (a a' : Answer) (after after' : List ℕ) → Outcome call value buf a after → Outcome call value buf' a' after' → (a.number ≡ no_room → ⊥)
      → GrownWhole after buf' after' more a a'
  grown a a' after after' (refuses k) (refuses k') m = refusal_grows unknown_call 0 more buf buf' longer
  grown a a' after after' (refuses k) (lays g k' o) m = absurd (not_both call g k k')
  grown a a' after after' (lays f k o) (refuses k') m = absurd (not_both call f k' k)
  grown a a' after after' (lays f k o) (lays g k' o') m =
      grows_by (string f value) f.terminated more buf buf' longer a a' after after' o
      (subst (λ h. Laid.Outcome (string h value) h.terminated buf' a' after') (one_form call g f k' k) o') m

pub larger_room : LargerRoom
larger_room call value more buf after buf' after' r r' longer c c' =
    grown call value more buf buf' longer (converted_answer r) (converted_answer r') after after' (outcome call value buf r after c) (outcome call value buf' r' after' c')

again : (call value : ℕ) (buf after buf' after' : List ℕ) (a a' : Answer) → Outcome call value buf a after
    → Outcome call value buf' a' after' → a.number ≡ no_room → a.need ≤ length buf' → a'.number ≡ 0
again call value buf after buf' after' a a' (refuses k) o e enough = absurd (omega arith)
again call value buf after buf' after' a a' (lays f k o) (refuses k') e enough = absurd (not_both call f k' k)
again call value buf after buf' after' a a' (lays f k o) (lays g k' o') e enough =
    (Layings.again (string f value) f.terminated buf (string g value) g.terminated buf' (same_need call value g f k' k) a a' after after' o o').1.1 enough

pub second_ask : SecondAsk
second_ask call value buf after buf' after' r r' c e enough c' =
    again call value buf after buf' after' (converted_answer r) (converted_answer r') (outcome call value buf r after c) (outcome call value buf' r' after' c') e enough
