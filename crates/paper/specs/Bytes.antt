-- The bytes of a text: one within bounds, runs of bytes that pass a test, where a text ends, and spaces, the bytes of a name and those
-- of a word. Past the slice's end stands a zero, which ends a text as the slice's end does.
use Rattle.std.specs.Prelude.{Bool, cond, not, ◌&&◌, ◌||◌, List, [], ◌∷◌, ℕ, suc, leb, eqb}
use Rattle.paper.specs.declared.bytes.ByteKind.{ByteKind}
use Rattle.paper.specs.declared.bytes.ByteKind.TheVariants.{Space, Name, Word}

abbrev pub among : ℕ → ℕ → ℕ → Bool
among low high c = leb low c && leb c high

-- how many bytes that pass a test a text starts with
abbrev pub run_of : (ℕ → Bool) → List ℕ → ℕ
run_of test [] = 0
run_of test (c ∷ cs) = cond (test c) (suc (run_of test cs)) 0

abbrev pub space : ℕ → Bool
space c = eqb c 32

-- how many spaces a text starts with
abbrev pub spaces : List ℕ → ℕ
spaces text = run_of space text

-- 0, 10 and 13 end a text
abbrev pub ends : ℕ → Bool
ends c = eqb c 0 || (eqb c 10 || eqb c 13)

-- a byte that a name may have: 33 to 126, and not 34, 60 or 62
unfoldable pub name_byte : ℕ → Bool
name_byte c = leb 33 c && (leb c 126 && (not (eqb c 34) && (not (eqb c 60) && not (eqb c 62))))

abbrev pub letter : ℕ → Bool
letter c = among 65 90 c || among 97 122 c

-- a word of an expression starts with a letter and goes on with letters, digits, "_" and "$"
unfoldable pub word_byte : ℕ → Bool
word_byte c = letter c || (among 48 57 c || (eqb c 95 || eqb c 36))

-- the kinds of bytes of which runs are passed over
abbrev pub of_kind : ByteKind → ℕ → Bool
of_kind Space c = space c
of_kind Name c = name_byte c
of_kind Word c = word_byte c
