-- `put` meets its contract: the bytes fit, so all of them are laid.
use mathlib.Core.Path.{◌≡◌, refl, ap, ◌∙◌}
use mathlib.Core.Bool.{cond}
use mathlib.Core.List.{List}
use Prim.Native.Nat.{ℕ, ◌+◌, ◌≤◌}
use lib.ListN.{length}
use lib.Seq.{sets, sets-eq}
use borrow.Author.Tests.{le-leb}
use Rattle.runs.specs.Output.{laid_at}
use Rattle.filter.proofs.LineLaws.{Put}
use Rattle.filter.proofs.lines.put.Goals as goal

whole : (out bytes after : List ℕ) (at : ℕ) → at + length bytes ≤ length out → after ≡ laid_at out at bytes → Put out at bytes (at + length bytes) after
whole out bytes after at fits e =
    (refl, e ∙ ap (λ b. cond b (sets out at bytes) out) (le-leb (at + length bytes) (length out) fits) ∙ sets-eq bytes out at fits)

pub returns : goal.returns
returns c =
    let laid = whole c.args.out.now c.args.bytes.now _ c.args.at c.requires c.copy.ensures in
    record { next = laid.0; buffer = laid.1 }
