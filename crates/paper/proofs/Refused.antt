-- Refusals and their numbers: a refusal is that of its number, and a fault's number is its refusal's.
use mathlib.Core.Path.{◌≡◌, refl}
use Prim.Native.Nat.{ℕ, suc}
use native.Mathlib.Omega.{arith}
use Rattle.paper.specs.Refusals.{refusal_number, refusal_of, refusal_by}
use Rattle.paper.specs.Traces.{fault_number}
use Rattle.paper.specs.declared.faults.Fault.{Fault}
use Rattle.paper.specs.declared.faults.Fault.TheVariants as Faults
use Rattle.paper.specs.declared.refusals.Refusal.{Refusal}
use Rattle.paper.specs.declared.refusals.Refusal.TheVariants.{NoRoom, NoDigit, BadBase, TooBig, NotEnded, OverLimit, BadCode, BadString, BadReference, UnknownName, TooDeep, AllowanceSpent, BadTable, UnknownCall, BadExpression, ZeroDivisor, NotAnInteger, OverLength, BadField, BadIndex, CodeOver255}

pub refused_back : (r : Refusal) → refusal_of (refusal_number r) ≡ r
refused_back NoRoom = refl
refused_back NoDigit = refl
refused_back BadBase = refl
refused_back TooBig = refl
refused_back NotEnded = refl
refused_back OverLimit = refl
refused_back BadCode = refl
refused_back BadString = refl
refused_back BadReference = refl
refused_back UnknownName = refl
refused_back TooDeep = refl
refused_back AllowanceSpent = refl
refused_back BadTable = refl
refused_back UnknownCall = refl
refused_back BadExpression = refl
refused_back ZeroDivisor = refl
refused_back NotAnInteger = refl
refused_back OverLength = refl
refused_back BadField = refl
refused_back BadIndex = refl
refused_back CodeOver255 = refl

pub fault_refused : (fault : Fault) → refusal_number (refusal_by fault) ≡ fault_number fault
fault_refused Faults.NoDigit = refl
fault_refused Faults.BadBase = refl
fault_refused Faults.TooBig = refl
fault_refused Faults.BadCode = refl
fault_refused Faults.BadString = refl
fault_refused Faults.BadReference = refl
fault_refused Faults.UnknownName = refl
fault_refused Faults.TooDeep = refl
fault_refused Faults.BadExpression = refl
fault_refused Faults.ZeroDivisor = refl
fault_refused Faults.NotAnInteger = refl
fault_refused Faults.CodeOver255 = refl

-- a number above 0 is not 0
clash_at : {n : ℕ} → suc n ≡ 0 → ⊥
clash_at e = omega arith

-- a refusal's number is not that of an answer that was accepted
pub refused_above : (r : Refusal) → refusal_number r ≡ 0 → ⊥
refused_above NoRoom = clash_at
refused_above NoDigit = clash_at
refused_above BadBase = clash_at
refused_above TooBig = clash_at
refused_above NotEnded = clash_at
refused_above OverLimit = clash_at
refused_above BadCode = clash_at
refused_above BadString = clash_at
refused_above BadReference = clash_at
refused_above UnknownName = clash_at
refused_above TooDeep = clash_at
refused_above AllowanceSpent = clash_at
refused_above BadTable = clash_at
refused_above UnknownCall = clash_at
refused_above BadExpression = clash_at
refused_above ZeroDivisor = clash_at
refused_above NotAnInteger = clash_at
refused_above OverLength = clash_at
refused_above BadField = clash_at
refused_above BadIndex = clash_at
refused_above CodeOver255 = clash_at
