-- The string of a format piece by piece: what is left to be written at each, and how the next one changes that.
use mathlib.Core.Bool.{Bool, true, false, not, ◌&&◌, and-eq-true_iff}
use mathlib.Core.List.{List, [], ◌∷◌, ◌++◌}
use mathlib.Core.Path.{◌≡◌, refl, ap, ap₂, sym, subst, subst₂, ◌∙◌}
use Prim.Native.Nat.{ℕ, zero, suc, ◌+◌, ◌-◌, ◌≤◌, ◌<◌}
use native.Mathlib.Nat.{add-zero}
use native.Mathlib.Numerals.{add-one}
use native.Mathlib.Omega.{arith}
use lib.Dec.{leb, eqb}
use borrow.Author.Tests.{le-leb, not-true}
use lib.ListN.{length, get_or, take, drop, set, length-set, length-append}
use lib.Seq.{sets, sets-eq, length-sets, length-take-le, drop-cons}
use Rattle.std.specs.Prelude.{Option, Some, None, Result, Ok, Err}
use Rattle.paper.specs.Layings.{laying, laid_in, Converted, converted_by}
use Rattle.paper.specs.declared.refusals.Refusal.TheVariants as Refusals
use Rattle.paper.specs.Bytes.{run_of}
use Rattle.paper.proofs.Choice.{clash, hit, skip, either}
use Rattle.paper.proofs.Runs.{run_none, run_more, run_short}
use Rattle.paper.proofs.Stores.{sets_append}
use Rattle.runs.specs.Output.{laid_at}
use Rattle.calendar.specs.declared.Moment.{Moment}
use Rattle.dates.specs.Fields.{pair, field_named, shown}
use Rattle.dates.specs.Formats.{named, behind_percent, piece_at, Layout, ended, copies, shows, bad_field_at, laid_out, layout_from, layout_of, string, good, bad, fields_of}
use Rattle.dates.specs.Conversions.{answer_by, buffer_by}
use Rattle.dates.specs.inner.Steps.{rendered, plain_byte}
use Rattle.dates.specs.declared.fields.Field.{Field}
use Rattle.dates.specs.declared.pieces.Piece.{Piece}
use Rattle.dates.specs.declared.pieces.Piece.TheVariants.{End, Copied, Percent, Shown, Bad}
use Rattle.dates.proofs.Layouts.{copied_inside, percent_inside, shown_inside, shown_length, width_most, string_short}
use Rattle.dates.specs.declared.render.BadField.{BadField}

-- a place of a format and a place of the string, and what is still to come from there on. The buffer counts where the string has room
pub record Rendering (m : Moment) (format out₀ out : List ℕ) (at to : ℕ) : Type 0 where
  pub fuel : ℕ
  pub ahead : length format < at + fuel
  pub inside : at ≤ length format
  pub short : to ≤ at
  pub answer : rendered m 0 (layout_of format) ≡ rendered m to (layout_from fuel format at)
  pub long : length (string m (layout_of format)) ≡ to + length (string m (layout_from fuel format at))
  pub buffer : length (string m (layout_of format)) ≤ length out₀ → sets out₀ 0 (string m (layout_of format)) ≡ sets out to (string m (layout_from fuel format at))
  pub same : length out ≡ length out₀

-- the start
pub starts : (m : Moment) (format out : List ℕ) → Rendering m format out out 0 0
starts m format out =
    record {
      fuel = suc (length format);
      ahead = omega arith;
      inside = omega arith;
      short = omega arith;
      answer = refl;
      long = omega arith;
      buffer = λ _. refl;
      same = refl;
    }

module _ (m : Moment) (format out₀ out : List ℕ) (at to : ℕ) where
  -- the next piece, with the layout behind it
  next : (fuel : ℕ) → length format < at + fuel → at ≤ length format → (more : ℕ) × (fuel ≡ suc more) × (layout_from fuel format at ≡ laid_out (piece_at format at) at (layout_from more format))
  unfolding layout_from
  next zero h i = absurd (omega arith)
  next (suc more) h i = (more, refl, refl)

  module _ (r : Rendering m format out₀ out at to) (piece : Piece) (e : piece_at format at ≡ piece) where
    step : (more : ℕ) × (r.fuel ≡ suc more) × (layout_from r.fuel format at ≡ laid_out piece at (layout_from more format))
    step =
        let n = next r.fuel r.ahead r.inside in
        (n.0, n.1, n.2 ∙ ap (λ p. laid_out p at (layout_from n.0 format)) e)

    abbrev rest : Layout
    rest = laid_out piece at (layout_from step.0 format)

    answers : rendered m 0 (layout_of format) ≡ rendered m to rest
    answers = r.answer ∙ ap (rendered m to) step.2

    lengths : length (string m (layout_of format)) ≡ to + length (string m rest)
    lengths = r.long ∙ ap (λ l. to + length (string m l)) step.2

    leaves : length (string m (layout_of format)) ≤ length out₀ → sets out₀ 0 (string m (layout_of format)) ≡ sets out to (string m rest)
    leaves room = r.buffer room ∙ ap (λ l. sets out to (string m l)) step.2

  -- the format's end, and a bad field
  pub ends : Rendering m format out₀ out at to → piece_at format at ≡ End
      → (Ok to ≡ rendered m 0 (layout_of format))
      × (length (string m (layout_of format)) ≤ length out₀ → out ≡ sets out₀ 0 (string m (layout_of format)))
  ends r e = (sym (answers r End e), λ room. sym (leaves r End e room))

  pub fails : Rendering m format out₀ out at to → piece_at format at ≡ Bad
      → (Err (record { at = record { 0 = at } }) ≡ rendered m 0 (layout_of format))
      × (length (string m (layout_of format)) ≤ length out₀ → out ≡ sets out₀ 0 (string m (layout_of format)))
  fails r e = (sym (answers r Bad e), λ room. sym (leaves r Bad e room))

  -- one byte that a piece of so many bytes gives
  module _ (r : Rendering m format out₀ out at to) (piece : Piece) (e : piece_at format at ≡ piece) (c size : ℕ)
      (gives : (rest : ℕ → Layout) → laid_out piece at rest ≡ copies c (rest (at + size))) (inside : at + size ≤ length format) (some : 1 ≤ size) where
    one : Rendering m format out₀ (set out to c) (at + size) (to + 1)
    one =
        let s = step r piece e in
        let l = gives (layout_from s.0 format) in
        record {
          fuel = s.0;
          ahead = omega (arith, r.ahead, s.1);
          inside = inside;
          short = omega (arith, r.short);
          answer = answers r piece e ∙ ap (rendered m to) l;
          long = omega (arith, lengths r piece e, ap (λ l. length (string m l)) l);
          buffer =
              λ room. leaves r piece e room ∙ ap (λ l. sets out to (string m l)) l
              ∙ ap (λ n. sets (set out to c) n (string m (layout_from s.0 format (at + size)))) (sym (add-one to));
          same = length-set out to c ∙ r.same;
        }

  copied : Rendering m format out₀ out at to → (c : ℕ) → piece_at format at ≡ Copied c → Rendering m format out₀ (set out to c) (at + 1) (to + 1)
  copied r c e = one r (Copied c) e c 1 (λ rest. refl) (omega (arith, copied_inside format at e)) (omega arith)

  percent : Rendering m format out₀ out at to → piece_at format at ≡ Percent → Rendering m format out₀ (set out to 37) (at + 2) (to + 1)
  percent r e = one r Percent e 37 2 (λ rest. refl) (omega (arith, percent_inside format at e)) (omega arith)

  field : Rendering m format out₀ out at to → (f : Field) → piece_at format at ≡ Shown f
      → Rendering m format out₀ (sets out to (shown f m)) (at + 3) (to + length (shown f m))
  field r f e =
      let s = step r (Shown f) e in
      let inside = shown_inside format at e in
      let narrow : length (shown f m) ≤ 3 = omega (arith, shown_length f m, width_most f) in
      let behind = string m (layout_from s.0 format (at + 3)) in
      record {
        fuel = s.0;
        ahead = omega (arith, r.ahead, s.1);
        inside = omega arith;
        short = omega (arith, r.short);
        answer = answers r (Shown f) e;
        long = omega (arith, lengths r (Shown f) e, length-append (shown f m) behind);
        buffer = λ room. leaves r (Shown f) e room ∙ sets_append (shown f m) behind out to;
        same = length-sets out to (shown f m) ∙ r.same;
      }

  -- another buffer of that length, which is the same where the string has room
  replaced : Rendering m format out₀ out at to → (out' : List ℕ) → length out' ≡ length out
      → (length (string m (layout_of format)) ≤ length out₀ → out' ≡ out) → Rendering m format out₀ out' at to
  replaced r out' l e =
      record {
        fuel = r.fuel;
        ahead = r.ahead;
        inside = r.inside;
        short = r.short;
        answer = r.answer;
        long = r.long;
        buffer = λ room. r.buffer room ∙ ap (λ o. sets o to (string m (layout_from r.fuel format at))) (sym (e room));
        same = l ∙ r.same;
      }

-- bytes that are laid where all of them fit
laid : (m : Moment) (format out₀ out bytes : List ℕ) (at to to' : ℕ) → to' ≡ to + length bytes
    → Rendering m format out₀ (sets out to bytes) at to' → (out' : List ℕ) → out' ≡ laid_at out to bytes → Rendering m format out₀ out' at to'
laid m format out₀ out bytes at to to' behind all out' e =
    replaced m format out₀ (sets out to bytes) at to' all out'
    (ap length e ∙ either (λ l. length l ≡ length (sets out to bytes)) (leb (to + length bytes) (length out)) (λ _. refl) (λ _. sym (length-sets out to bytes)))
    (λ room. e ∙ sym (hit (leb (to + length bytes) (length out)) _ _ (le-leb (to + length bytes) (length out) (omega (arith, behind, all.long, all.same, length-sets out to bytes))) refl))

module _ (m : Moment) (format out₀ out : List ℕ) (at to : ℕ) (r : Rendering m format out₀ out at to) (out' : List ℕ) where
  pub copied_laid : (c : ℕ) → piece_at format at ≡ Copied c → out' ≡ laid_at out to (c ∷ []) → Rendering m format out₀ out' (at + 1) (to + 1)
  copied_laid c e = laid m format out₀ out (c ∷ []) (at + 1) to (to + 1) (omega arith) (copied m format out₀ out at to r c e) out'

  pub percent_laid : piece_at format at ≡ Percent → out' ≡ laid_at out to (37 ∷ []) → Rendering m format out₀ out' (at + 2) (to + 1)
  percent_laid e = laid m format out₀ out (37 ∷ []) (at + 2) to (to + 1) (omega arith) (percent m format out₀ out at to r e) out'

  pub field_laid : (f : Field) → piece_at format at ≡ Shown f → (to' : ℕ) → out' ≡ laid_at out to (shown f m) → to' ≡ to + length (shown f m)
      → Rendering m format out₀ out' (at + 3) to'
  field_laid f e to' o t =
      laid m format out₀ out (shown f m) (at + 3) to to' t (subst (Rendering m format out₀ (sets out to (shown f m)) (at + 3)) (sym t) (field m format out₀ out at to r f e)) out' o

-- a byte that stands for itself is copied
plain_copied : (format : List ℕ) (at : ℕ) → plain_byte (get_or format at 0) ≡ true → piece_at format at ≡ Copied (get_or format at 0)
unfolding piece_at
plain_copied format at e =
    let t = (and-eq-true_iff (not (eqb (get_or format at 0) 0)) (not (eqb (get_or format at 0) 37))).0 e in
    sym (skip (eqb (get_or format at 0) 0) _ _ (not-true _ t.0) (skip (eqb (get_or format at 0) 37) _ _ (not-true _ t.1) refl))

-- no name is a byte that is copied
name_not_copied : (name : Option Field) (c : ℕ) → named name ≡ Copied c → ⊥
name_not_copied (Some field) c e = clash (cc)
name_not_copied None c e = clash (cc)

not_copied : (a b c : ℕ) → behind_percent a b ≡ Copied c → ⊥
not_copied a b c = either (λ p. p ≡ Copied c → ⊥) (eqb a 37) (λ _ e. clash (cc)) (λ _. name_not_copied (field_named (pair a b)) c)

copied_plain : (format : List ℕ) (at c : ℕ) → piece_at format at ≡ Copied c → plain_byte (get_or format at 0) ≡ true
unfolding piece_at
copied_plain format at c =
    let byte = get_or format at 0 in
    either (λ p. p ≡ Copied c → plain_byte byte ≡ true) (eqb byte 0) (λ _ e. clash (cc))
    (λ zero. either (λ p. p ≡ Copied c → plain_byte byte ≡ true) (eqb byte 37)
    (λ _ e. absurd (not_copied (get_or format (at + 1) 0) (get_or format (at + 2) 0) c e))
    (λ percent e. ap₂ (λ a b. not a && not b) zero percent))

-- a byte that is copied stands for itself
pub copied_run : (format : List ℕ) (at c : ℕ) → piece_at format at ≡ Copied c → 1 ≤ run_of plain_byte (drop at format)
copied_run format at c e = omega (arith, run_more plain_byte format at (copied_inside format at e) (copied_plain format at c e))

run_first : (test : ℕ → Bool) (text : List ℕ) (at : ℕ) → 0 < run_of test (drop at text) → test (get_or text at 0) ≡ true
run_first test text at h = go (test (get_or text at 0)) refl
  where
    go : (b : Bool) → test (get_or text at 0) ≡ b → test (get_or text at 0) ≡ true
    go true e = e
    go false e = absurd (omega (arith, run_none test text at e))

-- and so is a run of them
run : (m : Moment) (format out₀ : List ℕ) (n : ℕ) (out : List ℕ) (at to : ℕ) → Rendering m format out₀ out at to → n ≤ run_of plain_byte (drop at format)
    → Rendering m format out₀ (sets out to (take n (drop at format))) (at + n) (to + n)
run m format out₀ zero out at to r h = subst₂ (λ a t. Rendering m format out₀ out a t) (sym (add-zero at)) (sym (add-zero to)) r
run m format out₀ (suc n) out at to r h =
    let c = get_or format at 0 in
    let plain : plain_byte c ≡ true = run_first plain_byte format at (omega arith) in
    let inside : at < length format = copied_inside format at (plain_copied format at plain) in
    let first = copied m format out₀ out at to r c (plain_copied format at plain) in
    let more : n ≤ run_of plain_byte (drop (at + 1) format) = omega (arith, run_more plain_byte format at inside plain) in
    let all = run m format out₀ n (set out to c) (at + 1) (to + 1) first more in
    let a : at + 1 + n ≡ at + suc n = omega arith in
    let t : to + 1 + n ≡ to + suc n = omega arith in
    let o : sets (set out to c) (to + 1) (take n (drop (at + 1) format)) ≡ sets out to (take (suc n) (drop at format)) =
    ap₂ (λ i l. sets (set out to c) i (take n l)) (add-one to) (ap (λ i. drop i format) (add-one at))
    ∙ ap (λ l. sets out to (take (suc n) l)) (sym (drop-cons format at 0 inside)) in
    let there = subst₂ (Rendering m format out₀ (sets (set out to c) (to + 1) (take n (drop (at + 1) format)))) a t all in
    subst (λ o. Rendering m format out₀ o (at + suc n) (to + suc n)) o there

laid_run : (m : Moment) (format out₀ out : List ℕ) (at to : ℕ) → Rendering m format out₀ out at to
    → (n : ℕ) → n ≤ run_of plain_byte (drop at format) → (out' : List ℕ) → out' ≡ laid_at out to (take n (drop at format))
    → Rendering m format out₀ out' (at + n) (to + n)
laid_run m format out₀ out at to r n h out' e =
    let count : length (take n (drop at format)) ≡ n = length-take-le n (drop at format) (omega (arith, run_short plain_byte (drop at format))) in
    laid m format out₀ out (take n (drop at format)) (at + n) to (to + n) (omega (arith, count)) (run m format out₀ n out at to r h) out' e

pub runs_on : (m : Moment) (format out₀ out : List ℕ) (at to : ℕ) → Rendering m format out₀ out at to
    → (end : ℕ) → end ≡ at + run_of plain_byte (drop at format) → (out' : List ℕ) → out' ≡ laid_at out to (take (end - at) (drop at format))
    → Rendering m format out₀ out' end (to + (end - at))
runs_on m format out₀ out at to r end e out' o =
    let behind : at + (end - at) ≡ end = omega arith in
    subst (λ i. Rendering m format out₀ out' i (to + (end - at))) behind (laid_run m format out₀ out at to r (end - at) (omega arith) out' o)

characters_of : (n k : ℕ) → ◌≡◌ {A = Result ℕ BadField} (Ok n) (Ok k) → n ≡ k
characters_of n k e = cc

-- what is told of a layout: how long its string is, or its first bad field
pub measured : (m : Moment) (layout : Layout) (n k : ℕ) → rendered m n layout ≡ Ok k → (fields_of layout ≡ good) × (k ≡ n + length (string m layout))
measured m ended n k e = (refl, omega (arith, characters_of n k e))
measured m (copies c rest) n k e = let t = measured m rest (n + 1) k e in (t.0, omega (arith, t.1))
measured m (shows field rest) n k e =
    let t = measured m rest (n + length (shown field m)) k e in
    (t.0, omega (arith, t.1, length-append (shown field m) (string m rest)))
measured m (bad_field_at at) n k e = clash (cc)

found_of : (f g : BadField) → ◌≡◌ {A = Result ℕ BadField} (Err f) (Err g) → f ≡ g
found_of f g e = cc

pub failed : (m : Moment) (layout : Layout) (n : ℕ) (found : BadField) → rendered m n layout ≡ Err found → fields_of layout ≡ bad found.at.0
failed m ended n found e = clash (cc)
failed m (copies c rest) n found e = failed m rest (n + 1) found e
failed m (shows field rest) n found e = failed m rest (n + length (shown field m)) found e
failed m (bad_field_at at) n found e = ap (λ f. bad f.at.0) (found_of _ found e)

-- a string at the start of a buffer that has room for it
pub at_start : (string buf : List ℕ) (n : ℕ) → length string ≡ n → n ≤ length buf → sets buf 0 string ≡ string ++ drop n buf
at_start string buf n long fits =
    let same : 0 + length string ≡ n = omega (arith, long) in
    sets-eq string buf 0 (omega (arith, long)) ∙ ap (λ k. string ++ drop k buf) same

pub laid_at_start : (string buf after : List ℕ) (n : ℕ) → length string ≡ n → n ≤ length buf → after ≡ laid_at buf 0 string → after ≡ string ++ drop n buf
laid_at_start string buf after n long fits e =
    e ∙ sym (hit (leb (0 + length string) (length buf)) _ _ (le-leb (0 + length string) (length buf) (omega (arith, long))) refl) ∙ at_start string buf n long fits

-- what was told of a format decides the answer
module _ (m : Moment) (format buf : List ℕ) where
  abbrev layout : Layout
  layout = layout_of format

  pub bad_answer : (found : BadField) → rendered m 0 layout ≡ Err found
      → (Err (record { why = Refusals.BadField; at = found.at; need = 0; free = length buf }) ≡ converted_by (answer_by (fields_of layout) (string m layout) (length buf))) × (buf ≡ buffer_by (fields_of layout) (string m layout) buf)
  bad_answer found e =
      let f = sym (failed m layout 0 found e) in
      (ap (λ f. converted_by (answer_by f (string m layout) (length buf))) f, ap (λ f. buffer_by f (string m layout) buf) f)

  pub good_answer : (k : ℕ) → rendered m 0 layout ≡ Ok k → (r : Converted) (after : List ℕ)
      → (r ≡ converted_by (laying (string m layout) true (length buf))) × (after ≡ laid_in (string m layout) true buf)
      → (r ≡ converted_by (answer_by (fields_of layout) (string m layout) (length buf))) × (after ≡ buffer_by (fields_of layout) (string m layout) buf)
  good_answer k e r after (a, b) =
      let f = sym (measured m layout 0 k e).0 in
      (a ∙ ap (λ f. converted_by (answer_by f (string m layout) (length buf))) f, b ∙ ap (λ f. buffer_by f (string m layout) buf) f)

  -- the string is as long as was told, and no longer than the format
  pub told_length : (k : ℕ) → rendered m 0 layout ≡ Ok k → (length (string m layout) ≡ k) × (k ≤ length format)
  told_length k e =
      let t = (measured m layout 0 k e).1 in
      (omega (arith, t), omega (arith, t, string_short m (suc (length format)) format 0 (omega arith)))
