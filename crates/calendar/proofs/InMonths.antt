-- The month of a day by a division and a step, by one test of every day of a year.
use mathlib.Core.Bool.{Bool, true, false, cond, ◌&&◌, and-eq-true_iff}
use mathlib.Core.Path.{◌≡◌, refl, ap, sym, subst, ◌∙◌}
use Prim.Native.Nat.{ℕ, zero, suc, ◌+◌, ◌-◌, ◌/◌, ◌≤◌, ◌<◌}
use native.Mathlib.Decide.{dec_lt}
use native.Mathlib.Omega.{arith}
use lib.Dec.{leb, ltb, eqb}
use borrow.Author.Tests.{le-leb, lt-leb, leb-true, eqb-true}
use Rattle.paper.proofs.Choice.{hit, skip, either}
use Rattle.calendar.specs.Counting.{year_length, total, months}
use Rattle.calendar.specs.Dates.{last_begun}
use Rattle.calendar.specs.inner.Places.{place_in_month, in_leap_year}

-- a test that all numbers below one pass
abbrev pub passes : (ℕ → Bool) → ℕ → Bool
passes test zero = true
passes test (suc n) = test n && passes test n

pub passed : (test : ℕ → Bool) (n : ℕ) → passes test n ≡ true → (k : ℕ) → k < n → test k ≡ true
passed test zero t k h = absurd (omega arith)
passed test (suc n) t k h = go (passed test n both.1 k) (dec_lt k n)
  where
    both : (test n ≡ true) × (passes test n ≡ true)
    both = (and-eq-true_iff (test n) (passes test n)).0 t

    go : (k < n → test k ≡ true) → Dec (k < n) → test k ≡ true
    go below (yes less) = below less
    go below (no more) = let e : k ≡ n = omega arith in ap test e ∙ both.0

-- the month that the division names, or the next where that has begun
abbrev step : ℕ → ℕ
step number = cond (leb (total (months true) (number / 32 + 1)) number) (number / 32 + 1) (number / 32)

-- it is the month of the day, and nothing is taken from too little
abbrev named : Bool → ℕ → ℕ → Bool
named leap day number = eqb (last_begun (months leap) 11 day) (step number) && leb (total (months true) (step number)) number

-- and what is left of the day is what is left of its number
abbrev left : Bool → ℕ → ℕ → Bool
left leap day number = eqb (day - total (months leap) (step number)) (number - total (months true) (step number))

abbrev right : Bool → ℕ → Bool
right leap day = let number = in_leap_year leap day in named leap day number && left leap day number

all_right : (leap : Bool) → passes (right leap) (year_length leap) ≡ true
unfolding total last_begun
all_right true = refl
all_right false = refl

pub length_below : (leap : Bool) (day : ℕ) → day < year_length leap → day < 366
length_below true day h = h
length_below false day h = omega arith

-- the number of a day in a year with a 29 February is below 366
pub number_below : (leap : Bool) (day : ℕ) → day < year_length leap → in_leap_year leap day < 366
number_below true day h = h
number_below false day h = either (λ n. n < 366) (ltb day 59) (λ _. omega arith) (λ _. omega arith)

module _ (leap : Bool) (day : ℕ) (h : day < year_length leap) (number : ℕ) (is : number ≡ in_leap_year leap day) where
  abbrev first : ℕ → ℕ
  first n = total (months true) n

  tests : (named leap day number ≡ true) × (left leap day number ≡ true)
  tests =
      subst (λ n. (named leap day n ≡ true) × (left leap day n ≡ true)) (sym is)
      ((and-eq-true_iff (named leap day (in_leap_year leap day)) (left leap day (in_leap_year leap day))).0 (passed (right leap) (year_length leap) (all_right leap) day h))

  month : (last_begun (months leap) 11 day ≡ step number) × (first (step number) ≤ number)
  month =
      let t = (and-eq-true_iff (eqb (last_begun (months leap) 11 day) (step number)) (leb (first (step number)) number)).0 tests.0 in
      (eqb-true (last_begun (months leap) 11 day) (step number) t.0, leb-true (first (step number)) number t.1)

  placed : (k : ℕ) → step number ≡ k → (record { whole = k; days = number - first k } ≡ place_in_month leap day) × (first k ≤ number)
  placed k e =
      let rest = eqb-true (day - total (months leap) (step number)) (number - first (step number)) tests.1 in
      subst (λ k. (record { whole = k; days = number - first k } ≡ place_in_month leap day) × (first k ≤ number)) e (
        ap (λ d. record { whole = step number; days = d }) (sym rest)
            ∙ ap (λ k. record { whole = k; days = day - total (months leap) k }) (sym month.0),
        month.1,
      )

  pub next_month : first (number / 32 + 1) ≤ number → record { whole = number / 32 + 1; days = number - first (number / 32 + 1) } ≡ place_in_month leap day
  next_month begun = (placed (number / 32 + 1) (sym (hit (leb (first (number / 32 + 1)) number) _ _ (le-leb _ _ begun) refl))).0

  pub this_month : number < first (number / 32 + 1)
      → (record { whole = number / 32; days = number - first (number / 32) } ≡ place_in_month leap day) × (first (number / 32) ≤ number)
  this_month later = placed (number / 32) (sym (skip (leb (first (number / 32 + 1)) number) _ _ (lt-leb _ _ later) refl))
