-- The code's answer has every number of the paper's.
use mathlib.Core.Path.{◌≡◌, refl}
use Prim.Native.Nat.{ℕ}
use lib.ListN.{length}
use Rattle.paper.specs.Layings.{converted_by, converted_answer}
use Rattle.paper.proofs.Claimed.{laying_kept}
use Rattle.forms.specs.Strings.{string}
use Rattle.forms.specs.Calls.{Described, unknown, known, described}
use Rattle.numbers.specs.Conversions.{answer_in, answer_of}

kept_in : (d : Described) (value room : ℕ) → converted_answer (converted_by (answer_in d value room)) ≡ answer_in d value room
kept_in unknown value room = refl
kept_in (known form) value room = laying_kept (length (string form value)) form.terminated room

pub converted_kept : (call value room : ℕ) → converted_answer (converted_by (answer_of call value room)) ≡ answer_of call value room
unfolding answer_of
converted_kept call value room = kept_in (described call) value room
