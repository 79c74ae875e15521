-- A set of small numbers: a bit for each, 32 to a word.
use Rattle.std.specs.Prelude.{Bool, List, ℕ, ◌/◌, ◌%◌, ◌^◌, eqb, get_or}

unfoldable pub holds : List ℕ → ℕ → Bool
holds words number = eqb (get_or words (number / 32) 0 / 2 ^ (number % 32) % 2) 1
