-- `copy` meets its contract: where all bytes fit, the loop pastes one after the other.
use mathlib.Core.Path.{◌≡◌, ap, sym, ◌∙◌}
use mathlib.Core.List.{List, ◌++◌}
use Prim.Native.Nat.{ℕ, ◌+◌, ◌≤◌}
use native.Mathlib.Numerals.{add-one}
use native.Mathlib.Omega.{arith}
use lib.ListN.{length, get_or, set, take, drop}
use lib.Seq.{sets, sets-eq, paste, paste-suc, take-length}
use borrow.Author.Tests.{le-leb}
use lib.Dec.{leb}
use Rattle.paper.proofs.Choice.{hit}
use Rattle.runs.proofs.output.copy.Goals as goal

pub loop-i-preserved : goal.loop-i-preserved
loop-i-preserved c =
    let a = c.args in
    let l = c.loop-i in (
      omega arith,
      l.invariant.1,
      ap (λ o. set o (a.to + l.i) (get_or a.«from».now l.i 0)) l.invariant.2
          ∙ rw add-one (paste-suc a.out.now a.to a.«from».now l.i 0 (omega arith) (omega arith)),
    )

whole : (out bytes after : List ℕ) (to i : ℕ) → length bytes ≤ i → i ≤ length bytes → to + length bytes ≤ length out → after ≡ paste out to bytes i
    → after ≡ sets out to bytes
whole out bytes after to i high low fits e =
    let all : i ≡ length bytes = omega arith in
    e ∙ ap (paste out to bytes) all ∙ ap (λ l. take to out ++ l ++ drop (to + length bytes) out) (take-length bytes) ∙ sym (sets-eq bytes out to fits)

pub returns : goal.returns
returns c =
    let a = c.args in
    let l = c.loop-i in
    hit (leb (a.to + length a.«from».now) (length a.out.now)) _ _ (le-leb _ _ l.invariant.1)
    (whole a.out.now a.«from».now l.out a.to l.i (omega arith) (omega arith) l.invariant.1 l.invariant.2)
