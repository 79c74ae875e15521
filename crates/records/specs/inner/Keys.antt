-- A name's key, a number by which names are told apart before their bytes are compared.
use Rattle.std.specs.Prelude.{List, [], ◌∷◌, ℕ, ◌+◌, ◌*◌, ◌%◌}
use Rattle.records.specs.Records.{small}

-- its bytes, with A to Z as a to z, as digits of base 31, kept to 15 bits
unfoldable pub key_from : ℕ → List ℕ → ℕ
key_from key [] = key
key_from key (c ∷ cs) = key_from ((31 * key + small c) % 32768) cs

abbrev pub key_of : List ℕ → ℕ
key_of name = key_from 0 name
