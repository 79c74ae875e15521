-- `lay_records` meets its contract. The loop's invariant is how far the laying has come (`Laying`). The measure is what is left of the
-- length.
use mathlib.Core.Path.{refl, sym, subst}
use Prim.Native.Nat.{◌+◌}
use native.Mathlib.Omega.{arith}
use Rattle.records.specs.Records.{next_place}
use Rattle.variables.proofs.Good.{laid}
use Rattle.indexes.proofs.Laying.{Laying, laying_first, laying_next, laying_room, laying_last}
use Rattle.indexes.proofs.building.lay_records.Goals as goal

pub loop-place-init : goal.loop-place-init
loop-place-init c = (omega arith, refl, laying_first _ _ (laid _ c.requires.1))

pub overflow_cast-at : goal.overflow_cast-at
overflow_cast-at c = omega (arith, (laid _ c.requires.1).short)

pub insert-requires : goal.insert-requires
insert-requires c =
    let l = laid _ c.requires.1 in
    let r = laying_room _ _ l c.loop-place.invariant.2 c.loop-place-test.true in
    (omega (arith, r.0, l.few), omega (arith, r.0, c.requires.2), omega (arith, l.short))

pub overflow_add-count : goal.overflow_add-count
overflow_add-count c =
    let l = laid _ c.requires.1 in
    omega (arith, (laying_room _ _ l c.loop-place.invariant.2 c.loop-place-test.true).0, l.few)

pub loop-place-smaller : goal.loop-place-smaller
loop-place-smaller c = omega (arith, c.next_place-place.ensures)

pub loop-place-preserved : goal.loop-place-preserved
loop-place-preserved c =
    let l = laid _ c.requires.1 in
    let i = c.loop-place.invariant in
    let r = laying_room _ _ l i.2 c.loop-place-test.true in
    let a = c.args in
    let w = laying_next _ _ l i.2 c.loop-place-test.true in (
      omega (arith, r.1, c.next_place-place.ensures),
      omega (arith, i.1, c.insert.auto.out),
      subst (Laying a.table.now a.out.now c.insert.new.out (c.loop-place.count + 1)) (sym c.next_place-place.ensures)
          (subst (λ o. Laying a.table.now a.out.now o (c.loop-place.count + 1) (next_place a.table.now c.loop-place.place)) (sym c.insert.ensures) w),
    )

pub returns : goal.returns
returns c = laying_last _ _ (laid _ c.requires.1) c.loop-place.invariant.2 c.loop-place-test.false
