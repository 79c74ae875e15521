-- The order of names: byte by byte, and that it is one. No name comes before itself, what comes before a name that comes before another
-- comes before that too, and of two names neither comes before the other exactly when they are equal.
use mathlib.Core.Bool.{Bool, true, false, or-false, false≢true}
use mathlib.Core.List.{List, [], ◌∷◌, map}
use mathlib.Core.Logic.{◌↔◌}
use mathlib.Core.Path.{◌≡◌, refl, ap, ap₂, sym, ◌∙◌}
use Prim.Native.Nat.{ℕ, suc, ◌+◌, ◌<◌, ◌≤◌, min}
use native.Mathlib.Decide.{dec_lt}
use native.Mathlib.Numerals.{add-one}
use native.Mathlib.Omega.{arith}
use borrow.Author.Tests.{eq-eqb, ne_eqb, eqb-true, lt-ltb, le-ltb}
use lib.Dec.{eqb, ltb}
use lib.ListN.{length, get_or, drop, drop_of_length-le}
use lib.Seq.{drop-cons}
use Rattle.records.specs.Records.{small, same_name, less_bytes, comes_before}
use Rattle.records.proofs.Equal.{folded, unfolded}

-- of two numbers the first is less, or they are equal, or it is greater
data Sides (x y : ℕ) : Type 0 where
  less : x < y → Sides x y
  same : x ≡ y → Sides x y
  greater : y < x → Sides x y

sides : (x y : ℕ) → Sides x y
sides x y = go (dec_lt x y) (dec_lt y x) where
  go : Dec (x < y) → Dec (y < x) → Sides x y
  go (yes p) d = less p
  go (no p) (yes q) = greater q
  go (no p) (no q) = same (omega arith)

-- what two first bytes settle
module _ (x y : ℕ) (xs ys : List ℕ) where
  by_less : x < y → less_bytes (x ∷ xs) (y ∷ ys) ≡ true
  by_less h = rw (lt-ltb x y h)

  by_greater : y < x → less_bytes (x ∷ xs) (y ∷ ys) ≡ false
  by_greater h = rw (le-ltb x y (omega arith), ne_eqb x y (λ e. omega arith))

  by_rest : x ≡ y → less_bytes (x ∷ xs) (y ∷ ys) ≡ less_bytes xs ys
  by_rest e = rw (le-ltb x y (omega arith), eq-eqb x y e)

  by_first : eqb x y ≡ false → less_bytes (x ∷ xs) (y ∷ ys) ≡ ltb x y
  by_first e = rw e (or-false (ltb x y))

never : (a : List ℕ) → less_bytes a a ≡ false
never [] = refl
never (x ∷ xs) = by_rest x x xs xs refl ∙ never xs

further : (a b c : List ℕ) → less_bytes a b ≡ true → less_bytes b c ≡ true → less_bytes a c ≡ true
further [] [] c p q = absurd (false≢true p)
further [] (y ∷ ys) [] p q = absurd (false≢true q)
further [] (y ∷ ys) (z ∷ zs) p q = refl
further (x ∷ xs) [] c p q = absurd (false≢true p)
further (x ∷ xs) (y ∷ ys) [] p q = absurd (false≢true q)
further (x ∷ xs) (y ∷ ys) (z ∷ zs) p q = go (sides x y) (sides y z) (further xs ys zs) where
  go :
      Sides x y → Sides y z → (less_bytes xs ys ≡ true → less_bytes ys zs ≡ true → less_bytes xs zs ≡ true) →
      less_bytes (x ∷ xs) (z ∷ zs) ≡ true
  go (less h) (less k) on = by_less x z xs zs (omega arith)
  go (less h) (same e) on = by_less x z xs zs (omega arith)
  go (same e) (less k) on = by_less x z xs zs (omega arith)
  go (same e) (same f) on = by_rest x z xs zs (e ∙ f) ∙ on (sym (by_rest x y xs ys e) ∙ p) (sym (by_rest y z ys zs f) ∙ q)
  go (greater h) s on = absurd (false≢true (sym (by_greater x y xs ys h) ∙ p))
  go (less h) (greater k) on = absurd (false≢true (sym (by_greater y z ys zs k) ∙ q))
  go (same e) (greater k) on = absurd (false≢true (sym (by_greater y z ys zs k) ∙ q))

-- bytes of which neither are less are the same
neither : (a b : List ℕ) → less_bytes a b ≡ false → less_bytes b a ≡ false → a ≡ b
neither [] [] p q = refl
neither [] (y ∷ ys) p q = absurd (false≢true (sym p))
neither (x ∷ xs) [] p q = absurd (false≢true (sym q))
neither (x ∷ xs) (y ∷ ys) p q = go (sides x y) (neither xs ys) where
  go : Sides x y → (less_bytes xs ys ≡ false → less_bytes ys xs ≡ false → xs ≡ ys) → x ∷ xs ≡ y ∷ ys
  go (less h) on = absurd (false≢true (sym p ∙ by_less x y xs ys h))
  go (same e) on = ap₂ ◌∷◌ e (on (sym (by_rest x y xs ys e) ∙ p) (sym (by_rest y x ys xs (sym e)) ∙ q))
  go (greater h) on = absurd (false≢true (sym q ∙ by_less y x ys xs h))

-- the order of names
pub not_itself : (a b : List ℕ) → same_name a b ≡ true → comes_before a b ≡ false
unfolding comes_before
not_itself a b e = ap (less_bytes (map small a)) (sym (folded a b e)) ∙ never (map small a)

pub through : (a b c : List ℕ) → comes_before a b ≡ true → comes_before b c ≡ true → comes_before a c ≡ true
unfolding comes_before
through a b c p q = further (map small a) (map small b) (map small c) p q

pub not_both : (a b : List ℕ) → comes_before a b ≡ true → comes_before b a ≡ false
unfolding comes_before
not_both a b p = go (comes_before b a) refl where
  go : (t : Bool) → comes_before b a ≡ t → t ≡ false
  go false q = refl
  go true q = absurd (false≢true (sym (never (map small a)) ∙ further (map small a) (map small b) (map small a) p q))

-- the one law that ties the order to equality
pub neither_exactly : (a b : List ℕ) → ((comes_before a b ≡ false) × (comes_before b a ≡ false)) ↔ (same_name a b ≡ true)
unfolding comes_before
neither_exactly a b =
    (λ p. unfolded a b (neither (map small a) (map small b) p.0 p.1), λ e. (not_itself a b e, not_itself b a (unfolded b a (sym (folded a b e)))))

-- so an unequal name that does not come before another comes behind it
pub behind : (a b : List ℕ) → comes_before a b ≡ false → same_name a b ≡ false → comes_before b a ≡ true
behind a b p n = go (comes_before b a) refl where
  go : (t : Bool) → comes_before b a ≡ t → t ≡ true
  go true q = refl
  go false q = absurd (false≢true (sym n ∙ (neither_exactly a b).0 (p, q)))

-- and one that comes before another is unequal
pub unequal : (a b : List ℕ) → comes_before a b ≡ true → same_name a b ≡ false
unequal a b p = go (same_name a b) refl where
  go : (t : Bool) → same_name a b ≡ t → t ≡ false
  go false q = refl
  go true q = absurd (false≢true (sym (not_itself a b q) ∙ p))

-- what does not come before a name does not come before those before it
pub not_before : (a b c : List ℕ) → comes_before a b ≡ true → comes_before c b ≡ false → comes_before c a ≡ false
not_before a b c p q = go (comes_before c a) refl where
  go : (t : Bool) → comes_before c a ≡ t → t ≡ false
  go false e = refl
  go true e = absurd (false≢true (sym q ∙ through c a b e p))

-- byte by byte: where the second name ends, where two bytes are alike, where they are not, and where the first name ends
module _ (a b : List ℕ) (at : ℕ) where
  beginning_first : at < length a → length b ≤ at → comes_before (drop at a) (drop at b) ≡ false
  unfolding comes_before
  beginning_first h k = rw (drop-cons a at 0 h, drop_of_length-le b {i = at} k)

  beginning_ends : length a ≤ at → at ≤ length b → at ≡ length a → comes_before (drop at a) (drop at b) ≡ ltb (length a) (length b)
  unfolding comes_before
  beginning_ends h k e = go (dec_lt at (length b)) where
    go : Dec (at < length b) → comes_before (drop at a) (drop at b) ≡ ltb (length a) (length b)
    go (yes l) = rw (drop_of_length-le a {i = at} h, drop-cons b at 0 l, lt-ltb (length a) (length b) (omega arith))
    go (no l) = rw (drop_of_length-le a {i = at} h, drop_of_length-le b {i = at} (omega arith), le-ltb (length a) (length b) (omega arith))

  -- where the shorter name ends
  pub shorter_first : at ≡ min (length a) (length b) → comes_before (drop at a) (drop at b) ≡ ltb (length a) (length b)
  shorter_first e = go (dec_lt (length b) (length a)) where
    go : Dec (length b < length a) → comes_before (drop at a) (drop at b) ≡ ltb (length a) (length b)
    go (yes l) = beginning_first (omega arith) (omega arith) ∙ sym (le-ltb (length a) (length b) (omega arith))
    go (no l) = beginning_ends (omega arith) (omega arith) (omega arith)

  module _ (h : at < length a) (k : at < length b) where
    abbrev x : ℕ
    x = small (get_or a at 0)

    abbrev y : ℕ
    y = small (get_or b at 0)

    pub before_more : eqb x y ≡ true → comes_before (drop at a) (drop at b) ≡ comes_before (drop (at + 1) a) (drop (at + 1) b)
    unfolding comes_before
    before_more e = rw (add-one, drop-cons a at 0 h, drop-cons b at 0 k) (by_rest x y (map small (drop (suc at) a)) (map small (drop (suc at) b)) (eqb-true x y e))

    pub before_here : eqb x y ≡ false → comes_before (drop at a) (drop at b) ≡ ltb x y
    unfolding comes_before
    before_here e = rw (drop-cons a at 0 h, drop-cons b at 0 k) (by_first x y (map small (drop (suc at) a)) (map small (drop (suc at) b)) e)
