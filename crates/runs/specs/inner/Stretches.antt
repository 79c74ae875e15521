-- A stretch of a text whose bytes pass a test.
use Rattle.std.specs.Prelude.{◌≡◌, Bool, true, List, ℕ, ◌≤◌, ◌<◌, length, get_or}

-- from a place up to another
pub record Stretch (test : ℕ → Bool) (text : List ℕ) (start stop : ℕ) : Type 0 where
  pub forward : start ≤ stop
  pub inside : stop ≤ length text
  pub passes : (k : ℕ) → start ≤ k → k < stop → test (get_or text k 0) ≡ true
