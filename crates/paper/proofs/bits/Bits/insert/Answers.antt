-- `insert` meets its contract: a bit of 32 is one of a word.
use mathlib.Core.Path.{◌≡◌}
use Prim.Native.Nat.{◌%◌}
use native.Mathlib.Omega.{arith}
use lib.ListN.{length}
use Rattle.std.proofs.Common.{rules}
use Rattle.paper.proofs.BitLaws.{in_word, inserted}
use Rattle.paper.proofs.bits.Bits.insert.Goals as goal

pub returns-then-at-clause-inside : goal.returns-then-at-clause-inside
returns-then-at-clause-inside g c inside =
    let number = c.args.number in
    let words = c.args.self.now.words in
    let long : length words ≡ g.row.WORDS = search rules in
    λ other. rw (in_word (number % 32) (omega arith)) (inserted words number (omega (arith, long, inside)) other)
