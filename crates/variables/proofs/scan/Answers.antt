-- `scan` meets its contract. The loop's invariant: the scan comes to what it comes to from there on, with what is left of 256 records;
-- the records before are passed, their lines are laid, and these are noted.
-- The measure is what is left of the length.
use mathlib.Core.Bool.{true, false}
use mathlib.Core.List.{List}
use mathlib.Core.Path.{◌≡◌, refl, ap, sym, ◌∙◌}
use Prim.Native.Nat.{ℕ, zero, suc, ◌+◌, ◌-◌, ◌%◌, ◌<◌, ◌≤◌}
use native.Mathlib.Numerals.{add-one}
use native.Mathlib.Omega.{arith}
use borrow.Author.Tests.{le-leb, lt-leb}
use lib.ListN.{length, length-set}
use Rattle.std.specs.Prelude.{Result, Ok}
use Rattle.paper.specs.declared.refusals.BadTable.{BadTable}
use Rattle.paper.specs.declared.refusals.Refusal.TheVariants as Why
use Rattle.paper.specs.declared.Holder.{Holder}
use Rattle.records.specs.Records.{next_place}
use Rattle.variables.specs.Tables.{sound, bad_table_at, scanned, most, before}
use Rattle.variables.specs.inner.Keys.{lines_of, laid_over, passed_lines}
use Rattle.variables.proofs.Good.{next_inside}
use Rattle.variables.proofs.Lines.{key_of_line}
use Rattle.variables.proofs.NoteLaws.{none_noted, noted_more, noted_part}
use Rattle.variables.proofs.Passed.{at_first, passed_part, passed_more}
use Rattle.variables.proofs.scan.Goals as goal

module _ (table : List ℕ) (count place : ℕ) where
  abbrev rest : Result ℕ BadTable
  rest = scanned (most - count) count table place

  at_end : length table ≤ place → Ok count ≡ rest
  unfolding scanned
  at_end h = go (most - count) where
    go : (left : ℕ) → Ok count ≡ scanned left count table place
    go zero = rw (le-leb (length table) place h)
    go (suc left) = rw (le-leb (length table) place h)

  module _ (h : place < length table) where
    full : count ≡ most → bad_table_at Why.BadTable place ≡ rest
    unfolding scanned
    full e =
        let l : most - count ≡ 0 = omega arith in
        rw (l, lt-leb (length table) place h)

    module _ (c : count ≤ most) (n : count ≡ most → ⊥) where
      left : most - count ≡ suc (most - (count + 1))
      left = omega arith

      bad : sound table place ≡ false → bad_table_at Why.BadTable place ≡ rest
      unfolding scanned
      bad e = rw (left, lt-leb (length table) place h, e)

      more : {next : ℕ} → sound table place ≡ true → next ≡ next_place table place → rest ≡ scanned (most - (count + 1)) (count + 1) table next
      unfolding scanned
      more e q = rw (left, lt-leb (length table) place h, e, q, add-one)

-- a refusal's place is how far the check came
laid_to : (holder : Holder) (table keys : List ℕ) (place : ℕ) {r : Result ℕ BadTable} → r ≡ bad_table_at Why.BadTable place →
    laid_over (lines_of holder (before table place)) keys ≡ laid_over (passed_lines holder table r) keys
laid_to holder table keys place e = ap (λ r. laid_over (passed_lines holder table r) keys) (sym e)

-- and in a good table that is the end
to_end : (holder : Holder) (table keys : List ℕ) {place : ℕ} → place ≡ length table →
    laid_over (lines_of holder (before table place)) keys ≡ laid_over (lines_of holder (before table (length table))) keys
to_end holder table keys e = ap (λ p. laid_over (lines_of holder (before table p)) keys) e

pub returns-then-table-eq0 : goal.returns-then-table-eq0
returns-then-table-eq0 c =
    let a = c.args in
    let none : length a.table.now ≡ 0 = omega arith in
    record {
      answer = at_end a.table.now 0 0 (omega arith);
      keys = (at_first a.holder a.table.now a.keys.now).laid ∙ to_end a.holder _ _ (sym none);
    }

pub loop-place-init : goal.loop-place-init
loop-place-init c = (omega arith, omega arith, omega arith, omega arith, refl, at_first _ _ _, none_noted _ _)

pub shape_of-keys-then-count-eq-MOST_RECORDS : goal.shape_of-keys-then-count-eq-MOST_RECORDS
shape_of-keys-then-count-eq-MOST_RECORDS c = omega arith

pub returns-then-count-eq-MOST_RECORDS : goal.returns-then-count-eq-MOST_RECORDS
returns-then-count-eq-MOST_RECORDS c =
    let i = c.loop-place.invariant in
    let all : c.loop-place.count ≡ most = omega arith in
    record {
      answer = c.bad_table.ensures ∙ full _ _ _ c.loop-place-test.true all ∙ sym i.4;
      keys = i.5.laid ∙ laid_to c.args.holder _ c.args.keys.now _ c.bad_table.ensures;
    }

pub line_at-line-requires : goal.line_at-line-requires
line_at-line-requires c = omega arith

pub slice_bounds-is_sound-end : goal.slice_bounds-is_sound-end
slice_bounds-is_sound-end c = omega arith

pub is_sound-requires : goal.is_sound-requires
is_sound-requires c =
    let i = c.loop-place.invariant in
    record {
      own = (c.args.holder, passed_part _ _ _ i.5);
      all_noted = noted_part _ _ c.loop-place.count (c.loop-place.count - 0) (omega arith) (omega arith) i.6;
      key = ap (λ n. n % 32768) c.line_at-line.ensures ∙ key_of_line c.args.holder _ _;
    }

pub offset_bounds-keys-count : goal.offset_bounds-keys-count
offset_bounds-keys-count c = omega arith

pub bounds-keys-count : goal.bounds-keys-count
bounds-keys-count c = omega arith

pub overflow_cast-next : goal.overflow_cast-next
overflow_cast-next c =
    let sound-here = sym c.is_sound.ensures ∙ c.if-not-is_sound.false in
    omega (arith, next_inside _ _ sound-here)

pub overflow_add-count : goal.overflow_add-count
overflow_add-count c = omega arith

pub loop-place-smaller : goal.loop-place-smaller
loop-place-smaller c = omega arith

pub loop-place-preserved : goal.loop-place-preserved
loop-place-preserved c =
    let i = c.loop-place.invariant in
    let few : c.loop-place.count < most = omega arith in
    let sound-here = sym c.is_sound.ensures ∙ c.if-not-is_sound.false in
    let on = more _ _ _ c.loop-place-test.true i.0 c.if-count-eq-MOST_RECORDS.false sound-here c.next_place-next.ensures in (
      omega arith,
      omega (arith, next_inside _ _ sound-here),
      i.2,
      length-set c.loop-place.keys c.loop-place.count _ ∙ i.3,
      i.4 ∙ on,
      passed_more _ _ _ i.5 few i.2 c.line_at-line.ensures c.next_place-next.ensures,
      noted_more _ _ _ _ (omega arith) i.6 _ c.note.ensures,
    )

pub shape_of-keys-then-not-is_sound : goal.shape_of-keys-then-not-is_sound
shape_of-keys-then-not-is_sound c = omega arith

pub returns-then-not-is_sound : goal.returns-then-not-is_sound
returns-then-not-is_sound c =
    let i = c.loop-place.invariant in
    record {
      answer = c.bad_table-then-not-is_sound.ensures
          ∙ bad _ _ _ c.loop-place-test.true i.0 c.if-count-eq-MOST_RECORDS.false (sym c.is_sound.ensures ∙ c.if-not-is_sound.true)
          ∙ sym i.4;
      keys = i.5.laid ∙ laid_to c.args.holder _ c.args.keys.now _ c.bad_table-then-not-is_sound.ensures;
    }

pub shape_of-keys : goal.shape_of-keys
shape_of-keys c = omega arith

pub returns : goal.returns
returns c =
    let i = c.loop-place.invariant in
    let a = c.args in
    let all : c.loop-place.place ≡ length a.table.now = omega arith in
    record {
      answer = at_end _ _ _ c.loop-place-test.false ∙ sym i.4;
      keys = i.5.laid ∙ to_end a.holder _ _ all;
    }
