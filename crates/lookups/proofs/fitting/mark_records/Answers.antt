-- `mark_records` meets its contract.
use mathlib.Core.Bool.{Bool, true, false, ◌||◌}
use mathlib.Core.List.{List}
use mathlib.Core.Path.{◌≡◌, refl, sym, ◌∙◌}
use Prim.Native.Nat.{ℕ, zero, suc, ◌+◌, ◌-◌, ◌<◌, ◌≤◌}
use native.Mathlib.Numerals.{add-one}
use native.Mathlib.Omega.{arith}
use borrow.Author.Tests.{le-leb, lt-leb, lt-ltb}
use lib.Dec.{eqb}
use lib.ListN.{length}
use Rattle.std.proofs.Common.{Option, Some, None}
use Rattle.paper.specs.declared.bits.Bits.{Bits}
use Rattle.records.specs.Records.{next_place, shaped, entry_at}
use Rattle.variables.specs.Tables.{most, entries}
use Rattle.variables.proofs.Chain.{none_left}
use Rattle.lookups.specs.inner.Fitting.{marked, starts_one, shaped_from}
use Rattle.lookups.proofs.fitting.mark_records.Goals as goal

-- a record's place goes from the records to the marks
moved : (a b c : Bool) → ((a || b) || c) ≡ (b || (a || c))
moved true true c = refl
moved true false c = refl
moved false true c = refl
moved false false c = refl

module _ (table : List ℕ) (count place : ℕ) where
  abbrev rest : Option ℕ
  rest = shaped_from (most - count) count table place

  at_end : length table ≤ place → Some count ≡ rest
  unfolding shaped_from
  at_end h = go (most - count) where
    go : (left : ℕ) → Some count ≡ shaped_from left count table place
    go zero = rw (le-leb (length table) place h)
    go (suc left) = rw (le-leb (length table) place h)

  marks_end : length table ≤ place → (marks : Bits 2048) (p : ℕ) → marked marks p ≡ (starts_one (entries (most - count) table (length table) place) p || marked marks p)
  marks_end h marks p = rw (none_left table (length table) place (most - count) h)

  module _ (h : place < length table) where
    full : count ≡ most → None ≡ rest
    unfolding shaped_from
    full e =
        let l : most - count ≡ 0 = omega arith in
        rw (l, lt-leb (length table) place h)

    module _ (c : count ≤ most) (n : count ≡ most → ⊥) where
      left : most - count ≡ suc (most - (count + 1))
      left = omega arith

      bad : shaped table place ≡ false → None ≡ rest
      unfolding shaped_from
      bad e = rw (left, lt-leb (length table) place h, e)

      more : {next : ℕ} → shaped table place ≡ true → next ≡ next_place table place → rest ≡ shaped_from (most - (count + 1)) (count + 1) table next
      unfolding shaped_from
      more e q = rw (left, lt-leb (length table) place h, e, q, add-one)

      marks_more :
          (marks after : Bits 2048) {next : ℕ} → ((p : ℕ) → marked after p ≡ (eqb p place || marked marks p)) → next ≡ next_place table place → (p : ℕ) →
          (starts_one (entries (most - count) table (length table) place) p || marked marks p) ≡
          (starts_one (entries (most - (count + 1)) table (length table) next) p || marked after p)
      unfolding entries entry_at
      marks_more marks after m q p =
          rw (left, lt-ltb place (length table) h, m p, q)
          (moved (eqb p place) (starts_one (entries (most - (count + 1)) table (length table) (next_place table place)) p) (marked marks p))

pub returns-then-count-eq-MOST_RECORDS-clause-count : goal.returns-then-count-eq-MOST_RECORDS-clause-count
returns-then-count-eq-MOST_RECORDS-clause-count c =
    full _ _ _ c.loop-place-test.true c.if-count-eq-MOST_RECORDS.true ∙ sym c.loop-place.invariant.counted

pub returns-then-not-is_shaped-clause-count : goal.returns-then-not-is_shaped-clause-count
returns-then-not-is_shaped-clause-count c =
    let i = c.loop-place.invariant in
    bad _ _ _ c.loop-place-test.true i.few c.if-count-eq-MOST_RECORDS.false (sym c.is_shaped.ensures ∙ c.if-not-is_shaped.true) ∙ sym i.counted

pub loop-place-preserved : goal.loop-place-preserved
loop-place-preserved c =
    let i = c.loop-place.invariant in
    let test = c.loop-place-test.true in
    let not_full = c.if-count-eq-MOST_RECORDS.false in
    let on = c.next_place-place.ensures in
    record {
      few = omega arith;
      counted = i.counted ∙ more _ _ _ test i.few not_full (sym c.is_shaped.ensures ∙ c.if-not-is_shaped.false) on;
      marked = λ p. i.marked p ∙ marks_more _ _ _ test i.few not_full _ _ (c.insert.ensures.inside (omega arith)) on p;
    }

pub returns-clause-count : goal.returns-clause-count
returns-clause-count c = at_end _ _ _ c.loop-place-test.false ∙ sym c.loop-place.invariant.counted

pub returns-clause-marks : goal.returns-clause-marks
returns-clause-marks c p = marks_end _ _ _ c.loop-place-test.false _ p ∙ sym (c.loop-place.invariant.marked p)
