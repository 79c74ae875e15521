-- The three flags of a text, at bits 29, 30 and 31 of one word; other bits count for nothing.
use Rattle.std.specs.Prelude.{Bool, ℕ, ◌/◌, ◌%◌, ◌^◌, eqb}

-- whether a word has a bit, given as the power of 2 that it counts for
abbrev pub has : ℕ → ℕ → Bool
has word bit = eqb (word / bit % 2) 1

abbrev pub bit : ℕ → ℕ → Bool
bit n word = has word (2 ^ n)

-- 29: a space ends the text
abbrev pub space_ends : ℕ → Bool
space_ends word = bit 29 word

-- 30: "|" is ordinary
abbrev pub bar_plain : ℕ → Bool
bar_plain word = bit 30 word

-- 31: quotes are ordinary
abbrev pub quote_plain : ℕ → Bool
quote_plain word = bit 31 word
