-- `nos_look_up` meets its contract: the numbers of `look_up`'s answer.
use mathlib.Core.Bool.{not}
use mathlib.Core.Path.{ap, sym, subst, ◌∙◌}
use Prim.Native.Nat.{◌≤◌}
use native.Mathlib.Omega.{arith}
use lib.Dec.{eqb}
use Rattle.indexes.specs.Indexes.{given_by}
use Rattle.lookups.specs.Lookups.{found_length, looked_up}
use Rattle.lookups.proofs.Bounds.{value_short}
use Rattle.variables.proofs.Bounds.{all_bytes}
use Rattle.nosgoludd.specs.Faces.{found_face}
use Rattle.nosgoludd.proofs.meanings.nos_look_up.Goals as goal

pub face-requires : goal.face-requires
face-requires c =
    let a = c.args in
    let bytes = all_bytes a.farm.now a.house.now (λ k. omega (arith, c.type_inv.farm k)) (λ k. omega (arith, c.type_inv.house k)) in
    subst (λ f. found_length f ≤ 255) (sym (c.look_up.ensures ∙ ap (λ given. looked_up a.farm.now a.house.now given a.name.now) c.index_given.ensures))
    (value_short a.farm.now a.house.now (given_by (not (eqb a.indexed 0)) a.index.now) a.name.now bytes)

pub returns : goal.returns
returns c =
    let a = c.args in
    c.face.ensures ∙ ap found_face (c.look_up.ensures ∙ ap (λ given. looked_up a.farm.now a.house.now given a.name.now) c.index_given.ensures)
