-- `evaluate` meets its contract: Over length of the text, what is wrong with the tables, then the reading.
use mathlib.Core.Path.{◌≡◌, ap, sym, subst, ◌∙◌}
use mathlib.Core.List.{List}
use Prim.Native.Nat.{ℕ, ◌-◌}
use native.Mathlib.Omega.{arith}
use Rattle.std.specs.Prelude.{Err}
use lib.ListN.{take}
use Rattle.std.proofs.lemmas.List.{length-take-le}
use Rattle.variables.specs.inner.Keys.{Keys}
use Rattle.std.proofs.lemmas.Result.{err_from_is_err_and}
use Rattle.paper.specs.Traces.{run, allowed}
use Rattle.variables.proofs.KeysFind.{lines_inside, all_lines}
use Rattle.expressions.specs.Answers.{Evaluated, reading_of, value_in, evaluated_by, evaluated}
use Rattle.expressions.proofs.Orders.{over}
use Rattle.expressions.proofs.evaluate.Goals as goal

-- the reading of a text over good tables, its allowance capped
over_good : (text farm house : List ℕ) (allowance left : ℕ) (r : Evaluated)
    → r ≡ evaluated_by (run (reading_of text farm house) left) (value_in text farm house)
    → left ≡ allowed allowance → evaluated_by (run (reading_of text farm house) (allowed allowance)) (value_in text farm house) ≡ evaluated text farm house allowance
    → r ≡ evaluated text farm house allowance
over_good text farm house allowance left r e capped decides = e ∙ ap (λ n. evaluated_by (run (reading_of text farm house) n) (value_in text farm house)) capped ∙ decides

pub returns-in_err-count : goal.returns-in_err-count
returns-in_err-count c =
    let a = c.args in
    let p = err_from_is_err_and c.from_residual.result c.from_residual.ensures.1 in
    p.1 ∙ ap Err p.2 ∙ over a.text.now a.tables.now.farm.now a.tables.now.house.now a.allowance _ (omega arith) (sym c.in_err-count.ensures.answer)

-- good tables' lines are laid
pub slice_bounds-keys-end : goal.slice_bounds-keys-end
slice_bounds-keys-end c = lines_inside c.args.tables.now.farm.now c.args.tables.now.house.now _ c.key_tables.ensures.keys (sym c.in_ok-count.ensures.answer)

pub slice_bounds-source-end : goal.slice_bounds-source-end
slice_bounds-source-end c =
    sym
    (length-take-le c.in_ok-count.count c.key_tables.new.keys
    (lines_inside c.args.tables.now.farm.now c.args.tables.now.house.now _ c.key_tables.ensures.keys (sym c.in_ok-count.ensures.answer)))

pub invariant_of-source : goal.invariant_of-source
invariant_of-source c =
    let a = c.args in
    let whole : c.in_ok-count.count - 0 ≡ c.in_ok-count.count = omega arith in
    record {
      own =
          subst (λ n. Keys a.tables.now.farm.now a.tables.now.house.now (take n c.key_tables.new.keys)) whole
          (all_lines a.tables.now.farm.now a.tables.now.house.now _ c.key_tables.ensures.keys (sym c.in_ok-count.ensures.answer));
    }

pub returns : goal.returns
returns c =
    let a = c.args in
    over_good a.text.now a.tables.now.farm.now a.tables.now.house.now a.allowance _ _ c.evaluate_over.ensures c.cap.ensures.0
    (over a.text.now a.tables.now.farm.now a.tables.now.house.now a.allowance _ (omega arith) (sym c.in_ok-count.ensures.answer))
