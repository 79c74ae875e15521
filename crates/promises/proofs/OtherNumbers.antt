-- No answer by a reading has the number of an index that does not fit, and none by a table's check.
use mathlib.Core.List.Memᴰ
use mathlib.Core.List.Memᴰ.{head}
use mathlib.Core.List.Memᴰ.{tail}
use mathlib.Core.List.{Memᴰ}
use mathlib.Core.Path.{◌≡◌}
use Prim.Native.Nat.{ℕ, zero, suc}
use native.Mathlib.Omega.{arith}
use lib.Dec.{ltb}
use lib.ListN.{length}
use Rattle.paper.specs.Answers.{Answer}
use Rattle.paper.specs.Refusals.{bad_index}
use Rattle.paper.specs.Traces.{Trace, ended, faults, gives, asks, spends, enters, fault_number, Run, finished, refused, run, onward, fit, bytes, answer}
use Rattle.paper.specs.declared.faults.Fault.{Fault}
use Rattle.paper.specs.declared.faults.Fault.TheVariants.{NoDigit, BadBase, TooBig, BadCode, BadString, BadReference, UnknownName, TooDeep, BadExpression, ZeroDivisor, NotAnInteger, CodeOver255}
use Rattle.paper.proofs.Choice.{either}
use Rattle.variables.specs.Tables.{check_numbers}

abbrev Other : ℕ → Type 0
Other number = number ≡ bad_index → ⊥

fault_other : (fault : Fault) → Other (fault_number fault)
fault_other NoDigit = omega arith
fault_other BadBase = omega arith
fault_other TooBig = omega arith
fault_other BadCode = omega arith
fault_other BadString = omega arith
fault_other BadReference = omega arith
fault_other UnknownName = omega arith
fault_other TooDeep = omega arith
fault_other BadExpression = omega arith
fault_other ZeroDivisor = omega arith
fault_other NotAnInteger = omega arith
fault_other CodeOver255 = omega arith

abbrev RunOther : Run → Type 0
RunOther (finished end left) = Unit {0}
RunOther (refused number place) = Other number

onward_other : (r : Run) (place : ℕ) (rest : ℕ → Run) → RunOther r → ((left : ℕ) → RunOther (rest left)) → RunOther (onward r place rest)
onward_other (finished end left) place rest l f = f left
onward_other (refused number inner) place rest l f = l

run_other : (t : Trace) (left : ℕ) → RunOther (run t left)
run_other (ended end) left = tt
run_other (faults fault place) left = fault_other fault
run_other (gives byte rest) left = run_other rest left
run_other (asks name rest) left = run_other rest left
run_other (spends place rest) zero = omega arith
run_other (spends place rest) (suc left) = run_other rest left
run_other (enters reference value rest) left = onward_other (run value left) reference.place (run rest) (run_other value left) (run_other rest)

pub not_by_reading : (t : Trace) (allowance room : ℕ) → (answer t allowance room).number ≡ bad_index → ⊥
not_by_reading t allowance room = go (run t allowance) (run_other t allowance)
  where
    go : (r : Run) → RunOther r → (fit r (length (bytes t)) room).number ≡ bad_index → ⊥
    go (refused number place) other = other
    go (finished end left) other =
        either (λ (a : Answer). a.number ≡ bad_index → ⊥) (ltb room (length (bytes t))) (λ _ z. omega arith) (λ _ z. omega arith)

pub not_by_check : {number : ℕ} → Memᴰ number check_numbers → number ≡ bad_index → ⊥
not_by_check (head q) e = omega arith
not_by_check (tail (head q)) e = omega arith
not_by_check (tail (tail (head q))) e = omega arith
not_by_check (tail (tail (tail m))) e = Memᴰ.not-nil m
