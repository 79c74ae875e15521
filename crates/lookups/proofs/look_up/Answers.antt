-- `look_up` meets its contract: tables that are not good and an index that does not fit are refused, and else the name is looked for.
use mathlib.Core.Bool.{Bool, true, false}
use mathlib.Core.List.{List}
use mathlib.Core.Path.{◌≡◌, refl, ap, ap₂, sym, subst, ◌∙◌}
use Prim.Native.Nat.{ℕ, ◌-◌}
use native.Mathlib.Omega.{arith}
use lib.ListN.{take}
use Rattle.std.proofs.lemmas.List.{length-take-le}
use Rattle.std.specs.Prelude.{Result, Ok, Err}
use Rattle.std.proofs.lemmas.Result.{err_from_is_err_and}
use Rattle.paper.specs.declared.refusals.BadTableOf.{BadTableOf}
use Rattle.paper.proofs.Choice.{clash}
use Rattle.variables.specs.Holdings.{Holding, nowhere, held, sought_in_both}
use Rattle.variables.specs.inner.Keys.{Keys, match_as}
use Rattle.variables.proofs.KeysFind.{lines_inside, all_lines}
use Rattle.indexes.specs.Indexes.{given_as}
use Rattle.lookups.specs.Lookups.{found_as, found_by, looked_up}
use Rattle.lookups.specs.inner.Through.{to_lay, judged_by, Leads}
use Rattle.lookups.specs.declared.NotGood.{NotGood}
use Rattle.lookups.specs.declared.NotGood.TheVariants.{Table, Index}
use Rattle.lookups.proofs.Judging.{ready}
use Rattle.lookups.proofs.look_up.Goals as goal

-- what a look-up by keys and an index hands out
handed : (farm house : List ℕ) (h : Holding) → match_as farm house h ≡ found_as farm house h
handed farm house nowhere = refl
handed farm house (held holder e) = refl

-- what the judgement refuses is refused here
refused :
    (farm house name : List ℕ) (r : Result ℕ BadTableOf) (fit : Bool) (lines : ℕ) {why : NotGood} → Err why ≡ judged_by r fit lines →
    Err why ≡ found_by farm house name r fit
refused farm house name (Ok count) true lines e = clash (cc)
refused farm house name (Ok count) false lines {why} e =
    let same : why ≡ Index = cc in
    ap Err same
refused farm house name (Err bad) fit lines {why} e =
    let same : why ≡ Table bad = cc in
    ap Err same

pub returns-in_err-count : goal.returns-in_err-count
unfolding looked_up
returns-in_err-count c =
    let a = c.args in
    let p = err_from_is_err_and c.from_residual.result c.from_residual.ensures.1 in
    rw (p.1, p.2) (refused a.tables.now.farm.now a.tables.now.house.now a.name.now _ _ _ c.in_err-count.ensures.answer)

pub slice_bounds-keys-end : goal.slice_bounds-keys-end
slice_bounds-keys-end c =
    let a = c.args in
    let given = given_as a.index in
    let r = ready a.tables.now.farm.now a.tables.now.house.now given (sym c.in_ok-count.ensures.answer) in
    lines_inside a.tables.now.farm.now (to_lay a.tables.now.house.now given) _ c.judge.ensures.keys r.lined

pub slice_bounds-find-end : goal.slice_bounds-find-end
slice_bounds-find-end c =
    let a = c.args in
    let given = given_as a.index in
    let r = ready a.tables.now.farm.now a.tables.now.house.now given (sym c.in_ok-count.ensures.answer) in
    sym (length-take-le c.in_ok-count.count c.judge.new.keys (lines_inside a.tables.now.farm.now (to_lay a.tables.now.house.now given) _ c.judge.ensures.keys r.lined))

pub returns : goal.returns
unfolding looked_up
returns c =
    let a = c.args in
    let farm = a.tables.now.farm.now in
    let house = a.tables.now.house.now in
    let name = a.name.now in
    let given = given_as a.index in
    let r = ready farm house given (sym c.in_ok-count.ensures.answer) in
    let whole : c.in_ok-count.count - 0 ≡ c.in_ok-count.count = omega arith in
    let keys = subst (λ n. Keys farm (to_lay house given) (take n c.judge.new.keys)) whole (all_lines farm (to_lay house given) _ c.judge.ensures.keys r.lined) in
    let leads = subst (Leads farm house _) (sym c.bytes_given.ensures) (r.leads keys) in
    let found = c.find.ensures ∙ ap (match_as farm house) (leads name) ∙ handed farm house (sought_in_both farm house name) in
    ap Ok found ∙ sym (ap₂ (found_by farm house name) r.good r.fit)
