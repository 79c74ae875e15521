-- `is_sound` meets its contract: its tests are the definition's.
use mathlib.Core.Path.{sym, ◌∙◌}
use Rattle.variables.specs.Tables.{sound}
use Rattle.variables.proofs.is_sound.Goals as goal

pub returns-then-is_shaped : goal.returns-then-is_shaped
unfolding sound
returns-then-is_shaped c = rw (c.is_new.ensures, sym c.is_shaped.ensures ∙ c.if-is_shaped.true)

pub returns : goal.returns
unfolding sound
returns c = rw (sym c.is_shaped.ensures ∙ c.if-is_shaped.false)
