-- The bytes of a quoted text, whose characters are all ASCII.
use Rattle.std.specs.Prelude.{List, [], ◌∷◌, ℕ, zero, suc}
use Prim.Native.Char.{code}
use Prim.Native.String.{String, len, char_at}

abbrev pub bytes_from : String → ℕ → ℕ → List ℕ
bytes_from s at zero = []
bytes_from s at (suc more) = code (char_at s at) ∷ bytes_from s (suc at) more

abbrev pub bytes : String → List ℕ
bytes s = bytes_from s 0 (len s)
