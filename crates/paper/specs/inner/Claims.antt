-- The room that is claimed for a string before its characters are written.
use Rattle.std.specs.Prelude.{Bool, cond, List, ℕ, ltb, length}
use Rattle.std.proofs.lemmas.List.Edits.{sets}
use Rattle.paper.specs.Layings.{terminator, room_of}

-- what is to stand behind so many characters, where all of them have room; else nothing changes
unfoldable pub claimed_in : ℕ → Bool → List ℕ → List ℕ
claimed_in characters terminated buf =
    cond (ltb (length buf) (room_of characters terminated)) buf (sets buf characters (terminator terminated))
