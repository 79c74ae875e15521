-- Keys of names: one byte more, a bound, and that equal names have equal keys.
use mathlib.Core.Bool.{true}
use mathlib.Core.List.{List, [], ◌∷◌, map}
use mathlib.Core.Path.{◌≡◌, refl, ap, sym, ◌∙◌}
use Prim.Native.Nat.{ℕ, ◌+◌, ◌*◌, ◌%◌, ◌<◌, ◌≤◌}
use native.Mathlib.Numerals.{add-one}
use native.Mathlib.Omega.{arith}
use lib.ListN.{length, get_or, drop, drop_of_length-le}
use lib.Seq.{drop-cons}
use Rattle.records.specs.Records.{small, same_name}
use Rattle.records.specs.inner.Keys.{key_from, key_of}
use Rattle.records.proofs.Equal.{folded}

pub key_more :
    (name : List ℕ) (at key : ℕ) → at < length name →
    key_from key (drop at name) ≡ key_from ((31 * key + small (get_or name at 0)) % 32768) (drop (at + 1) name)
unfolding key_from
key_more name at key h = rw (add-one, drop-cons name at 0)

pub key_end : (name : List ℕ) (at key : ℕ) → length name ≤ at → key_from key (drop at name) ≡ key
unfolding key_from
key_end name at key h = rw (drop_of_length-le name {i = at} h)

key_below : (name : List ℕ) (key : ℕ) → key < 32768 → key_from key name < 32768
unfolding key_from
key_below [] key h = h
key_below (c ∷ cs) key h = key_below cs ((31 * key + small c) % 32768) (omega arith)

pub key_small : (name : List ℕ) → key_of name < 32768
key_small name = key_below name 0 (omega arith)

-- a key goes by the small bytes alone
fold : ℕ → List ℕ → ℕ
fold key [] = key
fold key (c ∷ cs) = fold ((31 * key + c) % 32768) cs

by_small : (name : List ℕ) (key : ℕ) → key_from key name ≡ fold key (map small name)
unfolding key_from fold
by_small [] key = refl
by_small (c ∷ cs) key = by_small cs ((31 * key + small c) % 32768)

pub same_key : (a b : List ℕ) → same_name a b ≡ true → key_of a ≡ key_of b
same_key a b e = by_small a 0 ∙ ap (fold 0) (folded a b e) ∙ sym (by_small b 0)
