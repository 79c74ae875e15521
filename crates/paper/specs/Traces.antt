-- A reading as a trace of what happens, which knows neither the room nor the allowance; its run under an allowance; its answer.
use Rattle.std.specs.Prelude.{cond, ◌≡◌, List, [], ◌∷◌, ◌++◌, ℕ, zero, suc, ◌+◌, ◌-◌, min, ltb, length}
use Rattle.paper.specs.Answers.{Answer, in_text, refusal}
use Rattle.paper.specs.Refusals.{no_room, no_digit, bad_base, too_big, bad_code, bad_string, bad_reference, unknown_name, too_deep, allowance_spent, bad_expression, zero_divisor, not_an_integer, code_over_255}
use Rattle.paper.specs.declared.faults.Fault.{Fault}
use Rattle.paper.specs.declared.faults.Fault.TheVariants.{NoDigit, BadBase, TooBig, BadCode, BadString, BadReference, UnknownName, TooDeep, BadExpression, ZeroDivisor, NotAnInteger, CodeOver255}

-- the paper's number of a fault
abbrev pub fault_number : Fault → ℕ
fault_number NoDigit = no_digit
fault_number BadBase = bad_base
fault_number TooBig = too_big
fault_number BadCode = bad_code
fault_number BadString = bad_string
fault_number BadReference = bad_reference
fault_number UnknownName = unknown_name
fault_number TooDeep = too_deep
fault_number BadExpression = bad_expression
fault_number ZeroDivisor = zero_divisor
fault_number NotAnInteger = not_an_integer
fault_number CodeOver255 = code_over_255

-- a macro's name, and the place of the "<" that names it
pub record Reference : Type 0 where
  pub name : List ℕ
  pub place : ℕ

pub data Trace : Type 0 where
  -- the place of the text's end
  ended : ℕ → Trace
  -- a place in the text or value that is being read
  faults : Fault → ℕ → Trace
  -- one byte
  gives : ℕ → Trace → Trace
  -- a name is asked for
  asks : List ℕ → Trace → Trace
  -- one look-up, at this place
  spends : ℕ → Trace → Trace
  -- a macro: its reference, the trace of its value, the rest
  enters : Reference → Trace → Trace → Trace

-- all bytes given, where the reading comes to its end
abbrev pub bytes : Trace → List ℕ
bytes (ended end) = []
bytes (faults fault place) = []
bytes (gives byte rest) = byte ∷ bytes rest
bytes (asks name rest) = bytes rest
bytes (spends place rest) = bytes rest
bytes (enters reference value rest) = bytes value ++ bytes rest

-- how a run comes out: at the text's end with the look-ups that are left, or with a number and a place
pub data Run : Type 0 where
  finished : ℕ → ℕ → Run
  refused : ℕ → ℕ → Run

-- behind a macro that finished the run goes on; one that was refused is refused at this level's "<"
abbrev pub onward : Run → ℕ → (ℕ → Run) → Run
onward (finished end left) place rest = rest left
onward (refused number inner) place rest = refused number place

abbrev pub spending : ℕ → ℕ → (ℕ → Run) → Run
spending place zero rest = refused allowance_spent place
spending place (suc left) rest = rest left

abbrev pub run : Trace → ℕ → Run
run (ended end) left = finished end left
run (faults fault place) left = refused (fault_number fault) place
run (gives byte rest) left = run rest left
run (asks name rest) left = run rest left
run (spends place rest) left = spending place left (run rest)
run (enters reference value rest) left = onward (run value left) reference.place (run rest)

-- the paper's numbers of a run: the refusal's, 0 where it finished, and the place of the refusal or of the text's end
abbrev pub run_number : Run → ℕ
run_number (finished end left) = 0
run_number (refused number place) = number

abbrev pub run_place : Run → ℕ
run_place (finished end left) = end
run_place (refused number place) = place

-- what a run gathers on its way: behind a look-up that is not allowed nothing more, nor behind a macro that was refused
abbrev pub allowed_on : {A : Type 0} → ℕ → (ℕ → List A) → List A
allowed_on zero rest = []
allowed_on (suc left) rest = rest left

abbrev pub finished_on : {A : Type 0} → Run → (ℕ → List A) → List A
finished_on (finished end left) rest = rest left
finished_on (refused number place) rest = []

abbrev pub gathered : {A : Type 0} → (ℕ → List A) → (List ℕ → List A) → Trace → ℕ → List A
gathered of_byte ofName (ended end) left = []
gathered of_byte ofName (faults fault place) left = []
gathered of_byte ofName (gives byte rest) left = of_byte byte ++ gathered of_byte ofName rest left
gathered of_byte ofName (asks name rest) left = ofName name ++ gathered of_byte ofName rest left
gathered of_byte ofName (spends place rest) left = allowed_on left (gathered of_byte ofName rest)
gathered of_byte ofName (enters reference value rest) left =
    gathered of_byte ofName value left ++ finished_on (run value left) (gathered of_byte ofName rest)

-- the bytes that a run makes before it ends or is refused
abbrev pub made : Trace → ℕ → List ℕ
made trace left = gathered (λ byte. byte ∷ []) (λ name. []) trace left

-- the names that it reaches: those that it looks up, and the one that it is refused at
abbrev pub asked : Trace → ℕ → List (List ℕ)
asked trace left = gathered (λ byte. []) (λ name. name ∷ []) trace left

-- the answer to a run that gave so many bytes, in a room
abbrev pub fit : Run → ℕ → ℕ → Answer
fit (finished end left) need room =
    cond (ltb room need)
    (record { number = no_room; counted = in_text; place = 0; need = need; free = room })
    (record { number = 0; counted = in_text; place = end; need = need; free = room - need })
fit (refused number place) need room = refusal number in_text place room

-- the allowance is 0 to 1,024; more counts as 1,024
abbrev pub allowed : ℕ → ℕ
allowed allowance = min allowance 1024

abbrev pub answer : Trace → ℕ → ℕ → Answer
answer trace allowance room = fit (run trace allowance) (length (bytes trace)) room

-- where the reading itself leads, with no allowance to stop it: to its end, or to the first fault
pub data Ending : Type 0 where
  done : ℕ → Ending
  faulted : Fault → ℕ → Ending

abbrev pub beyond : Ending → ℕ → Ending → Ending
beyond (done end) place rest = rest
beyond (faulted fault inner) place rest = faulted fault place

abbrev pub ending : Trace → Ending
ending (ended end) = done end
ending (faults fault place) = faulted fault place
ending (gives byte rest) = ending rest
ending (asks name rest) = ending rest
ending (spends place rest) = ending rest
ending (enters reference value rest) = beyond (ending value) reference.place (ending rest)

-- the reading succeeds: it comes to the text's end
abbrev pub Succeeds : Trace → Type 0
Succeeds trace = (end : ℕ) × (ending trace ≡ done end)

-- how many look-ups the reading reaches before that
abbrev pub reached : Ending → ℕ → ℕ
reached (done end) rest = rest
reached (faulted fault place) rest = 0

abbrev pub look_ups : Trace → ℕ
look_ups (ended end) = 0
look_ups (faults fault place) = 0
look_ups (gives byte rest) = look_ups rest
look_ups (asks name rest) = look_ups rest
look_ups (spends place rest) = suc (look_ups rest)
look_ups (enters reference value rest) = look_ups value + reached (ending value) (look_ups rest)
