-- What `read_unsigned` promises, over what its contract allows.
use Rattle.std.specs.Prelude.{◌≡◌, Bool, true, ◌↔◌, ℕ, Result}
use mathlib.Core.List.{List, Memᴰ}
use Rattle.reader.specs.Reading.{read_number, numbers}
use Rattle.paper.specs.declared.refusals.Refused.{Refused}
use Rattle.reader.specs.declared.Number.{Number}
use Rattle.promises.specs.Accepted.{is_read}
use Rattle.promises.specs.Allowed.{Reads}

-- one answer
abbrev pub OneAnswer : Type 0
OneAnswer = (text : List ℕ) (whole : Bool) (limit : ℕ) (r r' : Result Number Refused) → Reads text whole limit r → Reads text whole limit r' → r ≡ r'

-- the number is 0 exactly in the case of a value
abbrev pub Accepts : Type 0
Accepts = (text : List ℕ) (whole : Bool) (limit : ℕ) (r : Result Number Refused) → Reads text whole limit r → (read_number r ≡ 0) ↔ (is_read r ≡ true)

-- Demand 1: a value, or one of the listed refusals
abbrev pub Refusals : Type 0
Refusals = (text : List ℕ) (whole : Bool) (limit : ℕ) (r : Result Number Refused) → Reads text whole limit r → Memᴰ (read_number r) numbers
