-- The refusals and their numbers by name, a fault as a refusal, the longest text or table that is read, and the greatest number of a
-- reference.
use Rattle.std.specs.Prelude.{Bool, List, [], ◌∷◌, ℕ, ◌-◌, get_or, ltb, length}
use Rattle.paper.specs.declared.faults.Fault.{Fault}
use Rattle.paper.specs.declared.faults.Fault.TheVariants as Faults
use Rattle.paper.specs.declared.refusals.Refusal.{Refusal}
use Rattle.paper.specs.declared.refusals.Refusal.TheVariants.{NoRoom, NoDigit, BadBase, TooBig, NotEnded, OverLimit, BadCode, BadString, BadReference, UnknownName, TooDeep, AllowanceSpent, BadTable, UnknownCall, BadExpression, ZeroDivisor, NotAnInteger, OverLength, BadField, BadIndex, CodeOver255}

abbrev pub no_room : ℕ
no_room = 1

abbrev pub no_digit : ℕ
no_digit = 2

abbrev pub bad_base : ℕ
bad_base = 3

abbrev pub too_big : ℕ
too_big = 4

abbrev pub not_ended : ℕ
not_ended = 5

abbrev pub over_limit : ℕ
over_limit = 6

abbrev pub bad_code : ℕ
bad_code = 7

abbrev pub bad_string : ℕ
bad_string = 8

abbrev pub bad_reference : ℕ
bad_reference = 9

abbrev pub unknown_name : ℕ
unknown_name = 10

abbrev pub too_deep : ℕ
too_deep = 11

abbrev pub allowance_spent : ℕ
allowance_spent = 12

abbrev pub bad_table : ℕ
bad_table = 13

abbrev pub unknown_call : ℕ
unknown_call = 14

abbrev pub bad_expression : ℕ
bad_expression = 15

abbrev pub zero_divisor : ℕ
zero_divisor = 16

abbrev pub not_an_integer : ℕ
not_an_integer = 17

abbrev pub over_length : ℕ
over_length = 18

abbrev pub bad_field : ℕ
bad_field = 19

abbrev pub bad_index : ℕ
bad_index = 20

abbrev pub code_over_255 : ℕ
code_over_255 = 21

-- the paper's number of a refusal
abbrev pub refusal_number : Refusal → ℕ
refusal_number NoRoom = no_room
refusal_number NoDigit = no_digit
refusal_number BadBase = bad_base
refusal_number TooBig = too_big
refusal_number NotEnded = not_ended
refusal_number OverLimit = over_limit
refusal_number BadCode = bad_code
refusal_number BadString = bad_string
refusal_number BadReference = bad_reference
refusal_number UnknownName = unknown_name
refusal_number TooDeep = too_deep
refusal_number AllowanceSpent = allowance_spent
refusal_number BadTable = bad_table
refusal_number UnknownCall = unknown_call
refusal_number BadExpression = bad_expression
refusal_number ZeroDivisor = zero_divisor
refusal_number NotAnInteger = not_an_integer
refusal_number OverLength = over_length
refusal_number BadField = bad_field
refusal_number BadIndex = bad_index
refusal_number CodeOver255 = code_over_255

-- all refusals in the order of their numbers, the first of which is 1
abbrev pub refusals : List Refusal
refusals =
    NoRoom ∷ NoDigit ∷ BadBase ∷ TooBig ∷ NotEnded ∷ OverLimit ∷ BadCode ∷ BadString ∷ BadReference ∷ UnknownName ∷ TooDeep ∷ AllowanceSpent ∷ BadTable ∷ UnknownCall ∷ BadExpression ∷ ZeroDivisor ∷ NotAnInteger ∷ OverLength ∷ BadField ∷ BadIndex ∷ CodeOver255 ∷ []

-- the refusal that has a number, from 1 to 21; 0 gives the first as 1 does, since 0 - 1 is 0, and a number above 21 the last one
abbrev pub refusal_of : ℕ → Refusal
refusal_of number = get_or refusals (number - 1) CodeOver255

-- a fault as a refusal
abbrev pub refusal_by : Fault → Refusal
refusal_by Faults.NoDigit = NoDigit
refusal_by Faults.BadBase = BadBase
refusal_by Faults.TooBig = TooBig
refusal_by Faults.BadCode = BadCode
refusal_by Faults.BadString = BadString
refusal_by Faults.BadReference = BadReference
refusal_by Faults.UnknownName = UnknownName
refusal_by Faults.TooDeep = TooDeep
refusal_by Faults.BadExpression = BadExpression
refusal_by Faults.ZeroDivisor = ZeroDivisor
refusal_by Faults.NotAnInteger = NotAnInteger
refusal_by Faults.CodeOver255 = CodeOver255

-- in bytes
abbrev pub longest : ℕ
longest = 65535

-- a text or a table that is over it, counted to the end of the lent slice
abbrev pub too_long : List ℕ → Bool
too_long bytes = ltb longest (length bytes)

-- a number between "<" and ">" is one byte
abbrev pub greatest_code : ℕ
greatest_code = 255

-- one that is none
abbrev pub over_code : ℕ → Bool
over_code number = ltb greatest_code number
