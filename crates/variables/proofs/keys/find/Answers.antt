-- `find` meets its contract. The loop's invariant holds at first since no line of the blocks that are passed over has the key.
use mathlib.Core.Bool.{Bool, ◌&&◌}
use mathlib.Core.List.{List}
use mathlib.Core.Path.{◌≡◌, ap, sym, ◌∙◌}
use Prim.Native.Nat.{ℕ, ◌-◌, ◌%◌}
use native.Mathlib.Omega.{arith}
use lib.Dec.{eqb}
use lib.ListN.{length, drop, length-drop}
use lib.Seq.{take_all}
use Rattle.std.specs.Prelude.{Some}
use Rattle.records.specs.Records.{same_name}
use Rattle.records.specs.inner.Keys.{key_of}
use Rattle.variables.specs.inner.Keys.{record_by, names, sought_by, match_as}
use Rattle.variables.proofs.Lines.{unmet, met, not_met, without_whole, passed_over}
use Rattle.variables.proofs.keys.find.Goals as goal

-- what was asked of a line's record
told :
    (farm house name : List ℕ) (line key : ℕ) {b : Bool} → key ≡ key_of name →
    b ≡ (eqb (line % 32768) key && same_name (record_by farm house line).name name) → names farm house line name ≡ b
told farm house name line key k e = ap (λ k. eqb (line % 32768) k && same_name (record_by farm house line).name name) (sym k) ∙ sym e

pub loop-line-init : goal.loop-line-init
loop-line-init c =
    let a = c.args in
    let keys = a.keys.now in
    let stop = c.blocks_without-passed.result in
    let passed = without_whole keys _ c.key_of-key.ensures.0 c.blocks_without-passed.ensures in
    let all = take_all (length keys - stop) (drop stop keys) (omega (arith, length-drop stop keys)) in
    passed_over a.tables.now.farm.now a.tables.now.house.now keys a.name.now stop passed ∙ ap (λ ls. sought_by a.tables.now.farm.now a.tables.now.house.now ls a.name.now) (sym all)

pub returns-then-is_named : goal.returns-then-is_named
returns-then-is_named c =
    let a = c.args in
    let t = told a.tables.now.farm.now a.tables.now.house.now a.name.now _ _ c.key_of-key.ensures.0 c.is_named.ensures in
    let found_it = met a.tables.now.farm.now a.tables.now.house.now _ a.name.now _ c.loop-line-test.true (t ∙ c.if-is_named.true) in
    ap Some c.variable_of.ensures ∙ ap (match_as _ _) (sym (c.loop-line.invariant ∙ found_it))

pub loop-line-preserved : goal.loop-line-preserved
loop-line-preserved c =
    let a = c.args in
    let t = told a.tables.now.farm.now a.tables.now.house.now a.name.now _ _ c.key_of-key.ensures.0 c.is_named.ensures in
    c.loop-line.invariant ∙ not_met a.tables.now.farm.now a.tables.now.house.now _ a.name.now _ c.loop-line-test.true (t ∙ c.if-is_named.false)

pub returns : goal.returns
returns c = ap (match_as _ _) (sym (c.loop-line.invariant ∙ unmet _ _ _ _ _ c.loop-line-test.false))
