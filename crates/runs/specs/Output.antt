-- Bytes that are given, in the part of a buffer that is lent.
use Rattle.std.specs.Prelude.{cond, List, ℕ, ◌+◌, leb, length}
use Rattle.std.proofs.lemmas.List.Edits.{sets}

-- bytes laid at a place, where all of them fit; else nothing changes
abbrev pub laid_at : List ℕ → ℕ → List ℕ → List ℕ
laid_at out to given = cond (leb (to + length given) (length out)) (sets out to given) out
