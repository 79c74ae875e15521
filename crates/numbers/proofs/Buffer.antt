-- A buffer that is written from the right: what stands up to a place is old, and what is behind it is new.
use mathlib.Core.Path.{◌≡◌, sym, ◌∙◌}
use mathlib.Core.List.{List, ◌++◌, append_assoc}
use Prim.Native.Nat.{ℕ, ◌+◌, ◌≤◌}
use native.Mathlib.Nat.{zero-add}
use native.Mathlib.Omega.{arith}
use lib.ListN.{length, take, drop, length-append}
use lib.Seq.{sets, sets-eq, take-append-le, take-take, drop_at, length-take-le}

-- a run of bytes that ends where the new part starts makes it longer
pub prepend : (old new xs : List ℕ) (at end : ℕ) → at + length xs ≡ end → end ≤ length old
    → sets (take end old ++ new) at xs ≡ take at old ++ (xs ++ new)
prepend old new xs at end meet fits =
    let head : length (take end old) ≡ end = length-take-le end old fits in
    let room : at + length xs ≤ length (take end old ++ new) = rw (length-append, head) (omega arith) in
    let first : take at (take end old ++ new) ≡ take at old =
    take-append-le at (take end old) new (rw head (omega arith)) ∙ take-take at end old (omega arith) in
    let last : drop (at + length xs) (take end old ++ new) ≡ new = rw meet (drop_at (take end old) new end head) in
    sets-eq xs (take end old ++ new) at room ∙ rw (first, last) (append_assoc (take at old) xs new)

-- a sign before a middle: both stand at the start, and the rest as it was
pub signed : (old sign middle : List ℕ) (end : ℕ) → end ≡ length sign + length middle → end ≤ length old
    → sets (take (length sign) old ++ (middle ++ drop end old)) 0 sign ≡ (sign ++ middle) ++ drop end old
signed old sign middle end meet fits =
    prepend old (middle ++ drop end old) sign 0 (length sign) (zero-add (length sign)) (omega arith)
    ∙ sym (append_assoc sign middle (drop end old))
