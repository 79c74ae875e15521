-- What `read_unsigned` promises is kept.
use mathlib.Core.Bool.{true}
use mathlib.Core.List.Memᴰ
use mathlib.Core.Logic.{◌↔◌}
use mathlib.Core.Path.{◌≡◌, refl, ap, sym, ◌∙◌}
use Rattle.paper.proofs.Choice.{clash}
use Rattle.reader.specs.Reading.{read_number}
use Rattle.std.specs.Prelude.{Result, Ok, Err}
use Rattle.paper.specs.declared.refusals.Refused.{Refused}
use Rattle.paper.proofs.Refused.{refused_above}
use Rattle.reader.specs.declared.Number.{Number}
use Rattle.reader.proofs.Bounds.{reading_bounded}
use Rattle.promises.specs.Accepted.{is_read}
use Rattle.promises.specs.Readings.{OneAnswer, Accepts, Refusals}

pub one_answer : OneAnswer
one_answer text whole limit r r' c c' = c.answer ∙ sym c'.answer

accepts_by : (r : Result Number Refused) → (read_number r ≡ 0) ↔ (is_read r ≡ true)
accepts_by (Ok n) = (λ _. refl, λ _. refl)
accepts_by (Err r) = (λ z. absurd (refused_above r.why z), λ z. clash (cc))

pub accepts : Accepts
accepts text whole limit r c = accepts_by r

pub refusals : Refusals
refusals text whole limit r c = Memᴰ.cast (ap read_number c.answer) (reading_bounded text whole limit).listed
