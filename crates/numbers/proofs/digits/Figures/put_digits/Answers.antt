-- `put_digits` meets its contract: at the loop's head the digits that are done stand where they belong.
use mathlib.Core.Path.{◌≡◌, ap, ap₂, sym, subst, ◌∙◌}
use mathlib.Core.Bool.{Bool, cond}
use mathlib.Core.List.{List, [], ◌∷◌, ◌++◌, append_assoc}
use Prim.Native.Nat.{ℕ, suc, ◌+◌, ◌-◌, ◌/◌, ◌%◌, ◌^◌, ◌≤◌, ◌<◌}
use native.Mathlib.Nat.{pow-zero, pow-suc, div-one, div-div-eq-div-mul}
use native.Mathlib.Numerals.{add-one}
use native.Mathlib.Omega.{arith}
use lib.Dec.{eqb}
use lib.ListN.{length, take-append-drop, take, drop, set, length-append, length-drop}
use lib.Seq.{sets, length-take-le}
use Rattle.forms.specs.Digits.{glyph, gap, digits}
use Rattle.forms.specs.Strings.{radix}
use Rattle.numbers.specs.inner.Steps.{spread_of, gap_before}
use Rattle.numbers.proofs.Laws.{group_of, spread_zero, spread_suc, spread_mono, digits_length, gap_by_group, group_next}
use Rattle.numbers.proofs.Buffer.{prepend}
use Rattle.numbers.proofs.digits.Figures.put_digits.Goals as goal

module _ (b : ℕ) (s : Bool) (n : ℕ) (old : List ℕ) (at done end : ℕ) where
  -- the digits that are done, where they stand
  abbrev laid : List ℕ
  laid = take at old ++ (digits b s done n ++ drop end old)

  module _ (fits : end ≤ length old) (meet : at + spread_of s done ≡ end) where
    laid_length : length laid ≡ length old
    laid_length =
        simp (length-append, length-take-le at old (omega arith), digits_length b s done n, length-drop) (omega arith)

    laid_more : (start : ℕ) (buf : List ℕ) → start + length (gap s done) ≡ at → 1 ≤ start → buf ≡ sets laid start (gap s done)
        → set buf (start - 1) (glyph (n / b ^ done % b)) ≡ take (start - 1) old ++ (digits b s (suc done) n ++ drop end old)
    unfolding digits
    laid_more start buf gapEnd one e =
        let behind : List ℕ = digits b s done n ++ drop end old in
        let glyphs : List ℕ = glyph (n / b ^ done % b) ∷ [] in
        let spaced : buf ≡ take start old ++ (gap s done ++ behind) =
        e ∙ prepend old behind (gap s done) start at gapEnd (omega arith) in
        ap (λ l. sets l (start - 1) glyphs) spaced
        ∙ prepend old (gap s done ++ behind) glyphs (start - 1) start (omega arith) (omega arith)
        ∙ ap (λ l. take (start - 1) old ++ (glyph (n / b ^ done % b) ∷ l)) (sym (append_assoc (gap s done) (digits b s done n) (drop end old)))

-- one digit more has room with its space
room : (s : Bool) (at done count end : ℕ) → done < count → at + spread_of s done ≡ end → spread_of s count ≤ end
    → suc (length (gap s done)) ≤ at
room s at done count end more meet fits = omega (arith, spread_suc s done, spread_mono s {k = suc done} {m = count} more)

pub loop-done-init : goal.loop-done-init
unfolding digits
loop-done-init c =
    let a = c.args in
    (omega arith, rw (← spread_zero a.self.spaced) (omega arith), rw (pow-zero, div-one), sym (take-append-drop a.end a.buf.now), omega arith)

-- the space is that before the digits that are done
same_gap : (spaced : Bool) (done : ℕ) {group : ℕ} → group ≡ group_of done → gap spaced done ≡ gap_before spaced group
same_gap spaced done g = sym (ap (gap_before spaced) g ∙ gap_by_group spaced done)

-- inside the loop one digit more has room
has_room : (s : Bool) (at done count end : ℕ) {group : ℕ} → group ≡ group_of done → done < count → at + spread_of s done ≡ end → spread_of s count ≤ end
    → suc (length (gap_before s group)) ≤ at
has_room s at done count end g more meet fits = subst (λ x. suc (length x) ≤ at) (same_gap s done g) (room s at done count end more meet fits)

-- the buffer is as long as it was
as_long : (b : ℕ) (s : Bool) (n : ℕ) (old : List ℕ) (at done end : ℕ) {buf : List ℕ}
    → end ≤ length old → at + spread_of s done ≡ end → buf ≡ laid b s n old at done end → length buf ≡ length old
as_long b s n old at done end fits meet e = ap length e ∙ laid_length b s n old at done end fits meet

pub put_gap-at-requires : goal.put_gap-at-requires
put_gap-at-requires c =
    let a = c.args in
    let l = c.loop-done in
    let fits = has_room a.self.spaced l.at l._done a.self.count a.end l.invariant.4 c.loop-done-test.true l.invariant.1 c.requires.0 in
    let long = as_long (radix a.self.base) a.self.spaced a.self.number.magnitude a.buf.now l.at l._done a.end c.requires.1 l.invariant.1 l.invariant.3 in
    (omega (arith, fits), omega (arith, long, c.requires.1, l.invariant.1))

pub overflow_sub-at : goal.overflow_sub-at
overflow_sub-at c =
    let a = c.args in
    let l = c.loop-done in
    let fits = has_room a.self.spaced l.at l._done a.self.count a.end l.invariant.4 c.loop-done-test.true l.invariant.1 c.requires.0 in
    omega (arith, fits, c.put_gap-at.ensures.start)

pub bounds-buf-at : goal.bounds-buf-at
bounds-buf-at c =
    let a = c.args in
    let l = c.loop-done in
    let fits = has_room a.self.spaced l.at l._done a.self.count a.end l.invariant.4 c.loop-done-test.true l.invariant.1 c.requires.0 in
    let long = as_long (radix a.self.base) a.self.spaced a.self.number.magnitude a.buf.now l.at l._done a.end c.requires.1 l.invariant.1 l.invariant.3 in
    omega (arith, c.put_gap-at.auto, c.put_gap-at.ensures.start, long, fits, l.invariant.1)

pub loop-done-preserved : goal.loop-done-preserved
loop-done-preserved c =
    let l = c.loop-done in
    let a = c.args in
    let put = c.put_gap-at in
    let fits = has_room a.self.spaced l.at l._done a.self.count a.end l.invariant.4 c.loop-done-test.true l.invariant.1 c.requires.0 in
    let same = same_gap a.self.spaced l._done l.invariant.4 in
    let long : length (gap a.self.spaced l._done) ≡ length (gap_before a.self.spaced l.group) = ap length same in
    let b = radix a.self.base in (
      omega (arith, c.loop-done-test.true),
      rw add-one (omega (arith, spread_suc a.self.spaced l._done, fits, long, put.ensures.start, l.invariant.1)),
      c.shrink-rest.ensures ∙ ap (λ r. r / b) l.invariant.2 ∙ rw (add-one, pow-suc) (div-div-eq-div-mul a.self.number.magnitude (b ^ l._done) b),
      ap (λ x. set put.new.buf (put.result - 1) x) (c.last_glyph.ensures ∙ ap (λ r. glyph (r % b)) l.invariant.2)
          ∙ rw add-one (laid_more b a.self.spaced a.self.number.magnitude a.buf.now l.at l._done a.end c.requires.1
          l.invariant.1 put.result put.new.buf (omega (arith, fits, long, put.ensures.start)) (omega (arith, fits, put.ensures.start))
          (put.ensures.buffer ∙ ap₂ (λ t g. sets t put.result g) l.invariant.3 (sym same))),
      c.next_in_group-group.ensures ∙ ap (λ g. cond (eqb g 3) 1 (g + 1)) l.invariant.4 ∙ group_next l._done,
    )

pub returns : goal.returns
returns c =
    let l = c.loop-done in
    let a = c.args in
    let all : l._done ≡ a.self.count = omega arith in
    let start : l.at ≡ a.end - spread_of a.self.spaced a.self.count = omega (arith, l.invariant.1, ap (spread_of a.self.spaced) all) in
    l.invariant.3 ∙ ap₂ (λ at done. laid (radix a.self.base) a.self.spaced a.self.number.magnitude a.buf.now at done a.end) start all
