-- What names mean in a good table: a record's own name means that record, equal names are one record's, and a name that no record
-- can have means nothing.
use mathlib.Core.Bool.{Bool, true, false, and-eq-true_iff, false≢true}
use mathlib.Core.List.Memᴰ.{head}
use mathlib.Core.List.Memᴰ.{tail}
use mathlib.Core.List.{List, [], ◌∷◌, ◌++◌, Memᴰ}
use mathlib.Core.Path.{◌≡◌, refl, ap, sym, ◌∙◌}
use Prim.Native.Nat.{ℕ, ◌≤◌, ◌<◌}
use native.Mathlib.Omega.{arith}
use lib.ListN.{length, length-append}
use Rattle.records.specs.Records.{next_place, name_at, shaped, same_name, Entry, entry_at}
use Rattle.records.proofs.Equal.{reflexive, alike, other_length}
use Rattle.variables.specs.Tables.{most, Sought, absent, present, sought, is_absent, is_new, sound, records_of, sought_in}
use Rattle.variables.proofs.Chain.{Chain, end, next, exact, place_of, starts, later, split}
use Rattle.variables.proofs.Good.{Laid, wholes}

not_absent : {e : Entry} → present e ≡ absent → ⊥
not_absent e = let z : ◌≡◌ {A = ℕ} 0 1 = cc in omega arith

unpresent : {e f : Entry} → present e ≡ present f → e ≡ f
unpresent e = cc

-- a name that means nothing among the first records means what it means among the others
behind : (es fs : List Entry) (name : List ℕ) → sought es name ≡ absent → sought (es ++ fs) name ≡ sought fs name
unfolding sought
behind [] fs name e = refl
behind (x ∷ es) fs name e = go (same_name x.name name) refl (behind es fs name) where
  go :
      (b : Bool) → same_name x.name name ≡ b → (sought es name ≡ absent → sought (es ++ fs) name ≡ sought fs name) →
      sought (x ∷ (es ++ fs)) name ≡ sought fs name
  go true q further = absurd (not_absent (rw q at e))
  go false q further = rw q (further (rw q at e))

-- what a name means is one of the records, and has an equal name
pub found :
    (es : List Entry) (name : List ℕ) {e : Entry} → sought es name ≡ present e →
    Memᴰ e es × (same_name e.name name ≡ true)
unfolding sought
found [] name h = absurd (not_absent (sym h))
found (x ∷ es) name {e} h = go (same_name x.name name) refl (found es name) where
  go :
      (b : Bool) → same_name x.name name ≡ b →
      (sought es name ≡ present e → Memᴰ e es × (same_name e.name name ≡ true)) →
      Memᴰ e (x ∷ es) × (same_name e.name name ≡ true)
  go true q further =
      let same : x ≡ e = unpresent (rw q at h) in
      (head (sym same), rw (← same) q)
  go false q further = let r = further (rw q at h) in (tail r.0, r.1)

pub same_sought : (es : List Entry) (a b : List ℕ) → same_name a b ≡ true → sought es a ≡ sought es b
unfolding sought
same_sought [] a b e = refl
same_sought (x ∷ es) a b e = rw (alike x.name a b e, same_sought es a b e)

-- a name that no record has means nothing
pub unmet :
    (es : List Entry) (name : List ℕ) → ((e : Entry) → Memᴰ e es → same_name e.name name ≡ false) →
    sought es name ≡ absent
unfolding sought
unmet [] name n = refl
unmet (x ∷ es) name n = rw (n x (head refl)) (unmet es name (λ e m. n e (tail m)))

is_absent_lem : (m : Sought) → is_absent m ≡ true → m ≡ absent
is_absent_lem absent e = refl
is_absent_lem (present x) e = absurd (false≢true e)

-- each name is unequal to those behind it
pub data Apart : List Entry → Type 0 where
  none : Apart []
  one :
      {e : Entry} {es : List Entry} → ((f : Entry) → Memᴰ f es → same_name e.name f.name ≡ false) → Apart es →
      Apart (e ∷ es)

module _ {n : ℕ} {table : List ℕ} (l : Laid table n) where
  -- a record's own name means that record
  pub own : {e : Entry} → Memᴰ e (records_of table) → sought_in table e.name ≡ present e
  unfolding sound entry_at sought
  own {e} m =
      let s = split l.chain m in
      let sum = length-append s.front (e ∷ s.back) in
      let few : length s.front ≤ most = omega (arith, l.counted, l.few, ap length s.whole, sum) in
      let named : name_at table e.place ≡ e.name = sym (ap (λ x. x.name) (starts l.chain m)) in
      let new : is_new table e.place ≡ true = ((and-eq-true_iff (shaped table e.place) _).0 (l.sounds e m)).1 in
      let none : sought s.front e.name ≡ absent = rw (← exact most s.up_to few, ← named) (is_absent_lem _ new) in
      rw (s.whole, behind s.front (e ∷ s.back) e.name none, reflexive e.name)

  -- two records with equal names are one
  pub unique :
      {e f : Entry} → Memᴰ e (records_of table) → Memᴰ f (records_of table) → same_name e.name f.name ≡ true → e ≡ f
  unique {e} {f} a b same = unpresent (sym (own a) ∙ same_sought (records_of table) e.name f.name same ∙ own b)

  -- a name that means nothing is no record's
  pub missed : (name : List ℕ) → sought_in table name ≡ absent → (e : Entry) → Memᴰ e (records_of table) → same_name e.name name ≡ false
  missed name gone e m = go (same_name e.name name) refl
    where
      go : (b : Bool) → same_name e.name name ≡ b → b ≡ false
      go true q = absurd (not_absent (sym (own m) ∙ same_sought (records_of table) e.name name q ∙ gone))
      go false q = refl

  -- a name of no byte, or of more than 32
  pub out_of_length : (name : List ℕ) → (1 ≤ length name → 32 < length name) → sought_in table name ≡ absent
  out_of_length name h = unmet (records_of table) name differs where
    differs : (e : Entry) → Memᴰ e (records_of table) → same_name e.name name ≡ false
    differs e m =
        let w = wholes l m in
        other_length e.name name (λ q. omega (arith, q, w.name_to, h (omega (arith, q, w.name_from))))

  -- the names are pairwise unequal
  pub apart : Apart (records_of table)
  apart = go l.chain (λ e m. m) where
    differ :
        (place : ℕ) {es : List Entry} {f : Entry} → Chain table (length table) (next_place table place) es → Memᴰ f es →
        Memᴰ (entry_at table place) (records_of table) → Memᴰ f (records_of table) →
        (b : Bool) → same_name (entry_at table place).name f.name ≡ b → b ≡ false
    differ place r m a b true q = absurd (omega (arith, later r m, ap (λ x. x.place) (unique a b q), place_of table place))
    differ place r m a b false q = refl

    go :
        {place : ℕ} {es : List Entry} → Chain table (length table) place es →
        ((e : Entry) → Memᴰ e es → Memᴰ e (records_of table)) → Apart es
    go (end q) among = none
    go (next {place = place} r) among =
        one (λ f m. differ place r m (among _ (head refl)) (among f (tail m)) _ refl) (go r (λ e m. among e (tail m)))
