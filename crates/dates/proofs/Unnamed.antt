-- Behind the last of some names stands none.
use mathlib.Core.List.{List, [], ◌∷◌}
use mathlib.Core.Path.{◌≡◌}
use Prim.Native.Nat.{ℕ, ◌+◌, ◌*◌, ◌≤◌}
use native.Mathlib.Omega.{arith}
use lib.ListN.{length, get_or-eq_default}
use Rattle.dates.specs.Fields.{lettered}

pub unnamed : (names : List ℕ) (n : ℕ) → length names ≤ 3 * n → lettered names n ≡ 0 ∷ 0 ∷ 0 ∷ []
unnamed names n h =
    rw (
      get_or-eq_default names 0 {n = 3 * n} h,
      get_or-eq_default names 0 {n = 3 * n + 1} (omega arith),
      get_or-eq_default names 0 {n = 3 * n + 2} (omega arith),
    )
