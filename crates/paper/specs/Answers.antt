-- An answer in the paper's own numbers, for an operation that writes into a lent buffer.
use Rattle.std.specs.Prelude.{List, ◌≡◌, ℕ, ◌+◌, take, drop}
use Rattle.paper.specs.declared.Holder.{Holder}
use Rattle.paper.specs.declared.Holder.TheVariants.{Farm, House}

-- what a place is counted in: the text, the house's table, the farm's, or the index. The offset that a conversion gives is one in the lent buffer, and
-- is counted as a text's
abbrev pub in_text : ℕ
in_text = 0

abbrev pub in_house : ℕ
in_house = 1

abbrev pub in_farm : ℕ
in_farm = 2

abbrev pub in_index : ℕ
in_index = 3

abbrev pub counted_in : Holder → ℕ
counted_in Farm = in_farm
counted_in House = in_house

-- the refusal number, 0 where accepted; what the place is counted in; the place; the room that is enough; the room left
pub record Answer : Type 0 where
  pub number : ℕ
  pub counted : ℕ
  pub place : ℕ
  pub need : ℕ
  pub free : ℕ

-- a refusal's need is 0 but for No room, and its free is the room
abbrev pub refusal : ℕ → ℕ → ℕ → ℕ → Answer
refusal number counted place room = record { number = number; counted = counted; place = place; need = 0; free = room }

-- the same answer in a larger room, its free up by exactly the room added
pub record Grown (more : ℕ) (a a' : Answer) : Type 0 where
  pub number : a'.number ≡ a.number
  pub counted : a'.counted ≡ a.counted
  pub place : a'.place ≡ a.place
  pub need : a'.need ≡ a.need
  pub free : a'.free ≡ a.free + more

-- the same bytes too: `after` and `after'` are what two lent buffers hold after two calls, `buf'` what the larger one held before.
-- The bytes that are written are the same, and those behind them are as they were
pub record GrownWhole (after buf' after' : List ℕ) (more : ℕ) (a a' : Answer) : Type 0 where
  pub answer : Grown more a a'
  pub written : take a.need after' ≡ take a.need after
  pub behind : drop a.need after' ≡ drop a.need buf'
