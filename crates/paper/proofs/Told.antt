-- The number that a run is refused with is that of the refusal which has it: a reading's faults have their numbers, and so has Allowance spent.
use mathlib.Core.Path.{◌≡◌, refl, ap, sym, ◌∙◌}
use Prim.Native.Nat.{ℕ, zero, suc}
use Rattle.paper.specs.Refusals.{refusal_number, refusal_of, refusal_by}
use Rattle.paper.specs.Traces.{fault_number, Trace, ended, faults, gives, asks, spends, enters, Run, finished, refused, onward, run}
use Rattle.paper.specs.declared.faults.Fault.{Fault}
use Rattle.paper.proofs.Refused.{refused_back, fault_refused}

-- a fault's refusal is that of its number
pub refused_by : (fault : Fault) → refusal_of (fault_number fault) ≡ refusal_by fault
refused_by fault = ap refusal_of (sym (fault_refused fault)) ∙ refused_back (refusal_by fault)

abbrev pub Told : Run → Type 0
Told (finished end left) = Unit {0}
Told (refused number place) = refusal_number (refusal_of number) ≡ number

onward_told : (r : Run) (place : ℕ) (rest : ℕ → Run) → Told r → ((left : ℕ) → Told (rest left)) → Told (onward r place rest)
onward_told (finished end left) place rest t f = f left
onward_told (refused number inner) place rest t f = t

pub run_told : (t : Trace) (left : ℕ) → Told (run t left)
run_told (ended end) left = tt
run_told (faults fault place) left = ap refusal_number (refused_by fault) ∙ fault_refused fault
run_told (gives byte rest) left = run_told rest left
run_told (asks name rest) left = run_told rest left
run_told (spends place rest) zero = refl
run_told (spends place rest) (suc left) = run_told rest left
run_told (enters reference value rest) left = onward_told (run value left) reference.place (run rest) (run_told value left) (run_told rest)
