-- What inner functions give.
use Rattle.std.specs.Prelude.{cond, ℕ, min, ltb, Option, Some, None}
use Rattle.reader.specs.Reading.{digit}

-- a value as the code carries it: 4294967296 stands for every number above 4294967295
abbrev pub cut : ℕ → ℕ
cut value = min value 4294967296

-- a byte as a digit of a base
abbrev pub digit_in : ℕ → ℕ → Option ℕ
digit_in base c = cond (ltb (digit c) base) (Some (digit c)) None
