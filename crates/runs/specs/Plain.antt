-- The bytes that stand for themselves.
use Rattle.std.specs.Prelude.{Bool, cond, not, ◌&&◌, ◌||◌, ℕ, eqb}
use Rattle.paper.specs.Bytes.{ends}

-- a byte at which a text ends, a quote, "<" or "|"
abbrev pub marked : ℕ → Bool
marked c = ends c || (eqb c 34 || (eqb c 60 || eqb c 124))

-- a byte that is none of these, and not another one either
abbrev pub plain_byte : ℕ → ℕ → Bool
plain_byte also c = not (marked c) && not (eqb c also)

-- the byte that ends a run where spaces end the text; the zero, which ends every run, stands for none
abbrev pub also_ends : Bool → ℕ
also_ends spacesEnd = cond spacesEnd 32 0
