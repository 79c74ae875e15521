-- `run` meets its contract: what it answers is what `answer` makes of the text that it read.
use mathlib.Core.Path.{◌≡◌, ap, sym, ◌∙◌}
use mathlib.Core.List.{List}
use Prim.Native.Nat.{ℕ}
use lib.ListN.{length, take, drop}
use lib.Seq.{take_at}
use Rattle.filter.specs.Answers.{answer_to}
use Rattle.filter.proofs.LineLaws.{Stands}
use Rattle.filter.proofs.run.Goals as goal

-- what stands at the start of a buffer is as long as the part that is sent
counted : (text out : List ℕ) {after : List ℕ} {end : ℕ} → Stands out (answer_to text) end after → end ≡ length (take end after)
counted text out {after} {end} (ends, e) = ends ∙ ap length (sym (ap (take end) e ∙ take_at (answer_to text) (drop end out) end (sym ends)))

pub slice_bounds-send-end : goal.slice_bounds-send-end
slice_bounds-send-end g c = counted _ _ (c.answer-answer.ensures.length, c.answer-answer.ensures.buffer)
