-- What stands before a number's digits so that the unsigned reader reads them in a base.
use Rattle.std.specs.Prelude.{List, [], ◌∷◌, ℕ}
use Rattle.forms.specs.declared.forms.Base.{Base}
use Rattle.forms.specs.declared.forms.Base.TheVariants.{Two, Ten, Sixteen}

-- "&", "2_", nothing
abbrev pub lead : Base → List ℕ
lead Sixteen = 38 ∷ []
lead Two = 50 ∷ 95 ∷ []
lead Ten = []
