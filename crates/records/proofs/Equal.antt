-- Names byte by byte, and that equal names are an equivalence and have equal lengths.
use mathlib.Core.Bool.{true, false, ◌&&◌, and-false, and-eq-true_iff, false≢true}
use mathlib.Core.List.{List, [], ◌∷◌, map}
use mathlib.Core.Path.{◌≡◌, refl, ap, ap₂, sym, ◌∙◌}
use Prim.Native.Nat.{ℕ, suc, ◌+◌, ◌<◌, ◌≤◌}
use native.Mathlib.Numerals.{add-one}
use borrow.Author.Tests.{eq-eqb, eqb-true}
use lib.Dec.{eqb}
use lib.ListN.{length, get_or, drop, drop_of_length-le}
use lib.Seq.{drop-cons}
use Rattle.paper.specs.Bytes.{name_byte}
use Rattle.records.specs.Records.{all_name_bytes, small, same_bytes, same_name}

-- one byte more
pub allowed_more :
    (name : List ℕ) (at : ℕ) → at < length name →
    all_name_bytes (drop at name) ≡ (name_byte (get_or name at 0) && all_name_bytes (drop (at + 1) name))
allowed_more name at h = rw (add-one, drop-cons name at 0)

pub same_more :
    (a b : List ℕ) (at : ℕ) → at < length a → at < length b →
    same_name (drop at a) (drop at b) ≡
    (eqb (small (get_or a at 0)) (small (get_or b at 0)) && same_name (drop (at + 1) a) (drop (at + 1) b))
unfolding same_name
same_more a b at h k = rw (add-one, drop-cons a at 0, drop-cons b at 0)

pub other_length : (a b : List ℕ) → (length a ≡ length b → ⊥) → same_name a b ≡ false
unfolding same_name
other_length [] [] n = absurd (n refl)
other_length [] (y ∷ ys) n = refl
other_length (x ∷ xs) [] n = refl
other_length (x ∷ xs) (y ∷ ys) n = rw (other_length xs ys (λ e. n (ap suc e))) (and-false (eqb (small x) (small y)))

-- after the last byte nothing is left that could differ
pub same_end : (a b : List ℕ) (at : ℕ) → length a ≤ at → length b ≤ at → same_name (drop at a) (drop at b) ≡ true
unfolding same_name
same_end a b at h k = rw (drop_of_length-le a {i = at} h, drop_of_length-le b {i = at} k)

pub same_bytes_lem : (a : List ℕ) → same_bytes a a ≡ true
same_bytes_lem [] = refl
same_bytes_lem (x ∷ xs) = rw (eq-eqb x x refl) (same_bytes_lem xs)

pub bytes_same : (a b : List ℕ) → same_bytes a b ≡ true → a ≡ b
bytes_same [] [] e = refl
bytes_same [] (y ∷ ys) e = absurd (false≢true e)
bytes_same (x ∷ xs) [] e = absurd (false≢true e)
bytes_same (x ∷ xs) (y ∷ ys) e =
    let both = (and-eq-true_iff (eqb x y) (same_bytes xs ys)).0 e in
    ap₂ ◌∷◌ (eqb-true x y both.0) (bytes_same xs ys both.1)

-- equal names are those with equal small bytes
pub folded : (a b : List ℕ) → same_name a b ≡ true → map small a ≡ map small b
unfolding same_name
folded a b e = bytes_same (map small a) (map small b) e

pub unfolded : (a b : List ℕ) → map small a ≡ map small b → same_name a b ≡ true
unfolding same_name
unfolded a b e = rw e (same_bytes_lem (map small b))

pub reflexive : (a : List ℕ) → same_name a a ≡ true
reflexive a = unfolded a a refl

pub symmetric : (a b : List ℕ) → same_name a b ≡ true → same_name b a ≡ true
symmetric a b e = unfolded b a (sym (folded a b e))

pub transitive : (a b c : List ℕ) → same_name a b ≡ true → same_name b c ≡ true → same_name a c ≡ true
transitive a b c e f = unfolded a c (folded a b e ∙ folded b c f)

-- equal names are equal to the same names
pub alike : (name a b : List ℕ) → same_name a b ≡ true → same_name name a ≡ same_name name b
unfolding same_name
alike name a b e = ap (same_bytes (map small name)) (folded a b e)
