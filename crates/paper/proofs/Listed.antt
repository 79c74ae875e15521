-- Which numbers a trace's faults have: a run that is refused has one of those, or that of Allowance spent.
use mathlib.Core.Bool.{Bool, true, false, cond}
use mathlib.Core.List.Memᴰ.{head}
use mathlib.Core.List.Memᴰ.{tail}
use mathlib.Core.List.{List, [], ◌∷◌, Memᴰ}
use mathlib.Core.Path.{◌≡◌, refl}
use Prim.Native.Nat.{ℕ, zero, suc}
use native.Mathlib.Omega.{arith}
use borrow.Author.Tests.{eqb-true}
use lib.Dec.{eqb}
use Rattle.paper.specs.Refusals.{allowance_spent}
use Rattle.paper.specs.Traces.{fault_number, Reference, Trace, ended, faults, gives, asks, spends, enters, Run, finished, refused, onward, spending, run}
use Rattle.paper.specs.declared.faults.Fault.{Fault}

-- a number that a list has, found by its test
abbrev has : ℕ → List ℕ → Bool
has n [] = false
has n (m ∷ ms) = cond (eqb n m) true (has n ms)

pub member : (n : ℕ) (numbers : List ℕ) → has n numbers ≡ true → Memᴰ n numbers
member n [] e = let z : ◌≡◌ {A = ℕ} 0 1 = cc in absurd (omega arith)
member n (m ∷ ms) e = go (eqb n m) refl e (member n ms)
  where
    go : (b : Bool) → eqb n m ≡ b → cond b true (has n ms) ≡ true → (has n ms ≡ true → Memᴰ n ms) → Memᴰ n (m ∷ ms)
    go true t h rest = head (eqb-true n m t)
    go false t h rest = tail (rest h)

-- every fault of a trace and of its macros' values has a listed number
pub data Listed (numbers : List ℕ) : Trace → Type 0 where
  ended_listed : {end : ℕ} → Listed numbers (ended end)
  faults_listed : {fault : Fault} {place : ℕ} → Memᴰ (fault_number fault) numbers → Listed numbers (faults fault place)
  gives_listed : {byte : ℕ} {rest : Trace} → Listed numbers rest → Listed numbers (gives byte rest)
  asks_listed : {name : List ℕ} {rest : Trace} → Listed numbers rest → Listed numbers (asks name rest)
  spends_listed : {place : ℕ} {rest : Trace} → Listed numbers rest → Listed numbers (spends place rest)
  enters_listed : {reference : Reference} {value rest : Trace} → Listed numbers value → Listed numbers rest → Listed numbers (enters reference value rest)

-- a run that is refused has a listed number
abbrev pub RunListed : List ℕ → Run → Type 0
RunListed numbers (finished end left) = Unit {0}
RunListed numbers (refused number place) = Memᴰ number numbers

module _ (numbers : List ℕ) (spent : Memᴰ allowance_spent numbers) where
  onward_listed : (r : Run) (place : ℕ) (rest : ℕ → Run) → RunListed numbers r → ((left : ℕ) → RunListed numbers (rest left))
      → RunListed numbers (onward r place rest)
  onward_listed (finished end left) place rest l f = f left
  onward_listed (refused number inner) place rest l f = l

  spending_listed : (left place : ℕ) (rest : ℕ → Run) → ((left : ℕ) → RunListed numbers (rest left)) → RunListed numbers (spending place left rest)
  spending_listed zero place rest f = spent
  spending_listed (suc left) place rest f = f left

  pub run_listed : {t : Trace} → Listed numbers t → (left : ℕ) → RunListed numbers (run t left)
  run_listed ended_listed left = tt
  run_listed (faults_listed m) left = m
  run_listed (gives_listed t) left = run_listed t left
  run_listed (asks_listed t) left = run_listed t left
  run_listed (spends_listed {place = q} {rest = r} t) left = spending_listed left q (run r) (run_listed t)
  run_listed (enters_listed {reference = q} {value = v} {rest = r} i t) left = onward_listed (run v left) q.place (run r) (run_listed i left) (run_listed t)
