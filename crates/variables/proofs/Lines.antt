-- The lines of keys: what a name means by the lines of a table's records is what it means among the records.
use mathlib.Core.Bool.{Bool, true, false, cond, ◌&&◌, and-false}
use mathlib.Core.List.{List, [], ◌∷◌, ◌++◌, append-nil}
use mathlib.Core.Path.{◌≡◌, refl, ap, sym, subst, ◌∙◌}
use Prim.Native.Nat.{ℕ, zero, suc, ◌+◌, ◌-◌, ◌*◌, ◌/◌, ◌%◌, ◌<◌, ◌≤◌}
use native.Mathlib.Numerals.{add-one}
use native.Mathlib.Omega.{arith}
use borrow.Author.Tests.{eq-eqb, ne_eqb, lt-ltb, le-ltb}
use lib.Dec.{ltb, eqb}
use lib.ListN.{length, get_or, take, drop, drop_of_length-le}
use lib.Seq.{drop-cons, take_all}
use Rattle.paper.specs.declared.Holder.{Holder}
use Rattle.paper.specs.declared.Holder.TheVariants.{Farm, House}
use Rattle.paper.proofs.Choice.{either}
use Rattle.records.specs.Records.{next_place, name_at, same_name, Entry, entry_at}
use Rattle.records.specs.inner.Keys.{key_of}
use Rattle.records.proofs.KeyLaws.{key_small, same_key}
use Rattle.variables.specs.Tables.{most, entries, Sought, present, sought, before}
use Rattle.variables.specs.Holdings.{held_by, Holding, nowhere, held, held_in, or_else}
use Rattle.variables.specs.inner.Keys.{mark_of, line_of, lines_of, LinesBefore, holder_of, record_by, names, sought_by, Without}

-- one line of any keys
module _ (farm house keys name : List ℕ) (at : ℕ) where
  pub unmet : length keys ≤ at → sought_by farm house (drop at keys) name ≡ nowhere
  unfolding sought_by
  unmet h = rw (drop_of_length-le keys {i = at} h)

  module _ (h : at < length keys) where
    pub met :
        names farm house (get_or keys at 0) name ≡ true →
        sought_by farm house (drop at keys) name ≡ held (holder_of (get_or keys at 0)) (record_by farm house (get_or keys at 0))
    unfolding sought_by
    met e = rw (drop-cons keys at 0, e)

    pub not_met :
        names farm house (get_or keys at 0) name ≡ false →
        sought_by farm house (drop at keys) name ≡ sought_by farm house (drop (at + 1) keys) name
    unfolding sought_by
    not_met e = rw (add-one, drop-cons keys at 0, e)

-- the part of some keys that is all of them, and a key that is a name's
pub without_whole : {key own : ℕ} (keys : List ℕ) (stop : ℕ) → key ≡ own → Without key (take (length keys - 0) keys) stop → Without own keys stop
without_whole {own = own} keys stop e w = subst (λ ks. Without own ks stop) (take_all (length keys - 0) keys (omega arith)) (rw e at w)

-- the name is then sought among those after them
module _ (farm house keys name : List ℕ) where
  pub passed_over : (stop : ℕ) → Without (key_of name) keys stop → sought_by farm house keys name ≡ sought_by farm house (drop stop keys) name
  passed_over zero w = refl
  passed_over (suc stop) w =
      let before : Without (key_of name) keys stop = record { inside = omega (arith, w.inside); passes = λ k h. w.passes k (omega arith) } in
      let other : names farm house (get_or keys stop 0) name ≡ false = rw (ne_eqb _ _ (w.passes stop (omega arith))) in
      let on = not_met farm house keys name stop (omega (arith, w.inside)) other in
      passed_over stop before ∙ on ∙ ap (λ n. sought_by farm house (drop n keys) name) (add-one stop)

-- a record's line has its place, its table and its key
pub place_in_lem : (holder : Holder) (place key : ℕ) → key < 32768 → (65536 * place + mark_of holder + key) / 65536 ≡ place
place_in_lem Farm place key h = omega arith
place_in_lem House place key h = omega arith

pub key_in : (holder : Holder) (place key : ℕ) → key < 32768 → (65536 * place + mark_of holder + key) % 32768 ≡ key
key_in Farm place key h = omega arith
key_in House place key h = omega arith

pub key_of_line : (holder : Holder) (table : List ℕ) (place : ℕ) → line_of holder (entry_at table place) % 32768 ≡ key_of (name_at table place)
unfolding entry_at
key_of_line holder table place = key_in holder place (key_of (name_at table place)) (key_small (name_at table place))

pub holder_in : (holder : Holder) (place key : ℕ) → key < 32768 → holder_of (65536 * place + mark_of holder + key) ≡ holder
holder_in Farm place key h = rw (le-ltb ((65536 * place + 32768 + key) % 65536) 32768 (omega arith))
holder_in House place key h = rw (lt-ltb ((65536 * place + 0 + key) % 65536) 32768 (omega arith))

-- unequal keys are of unequal names
same_or_other : (a b : List ℕ) → (eqb (key_of a) (key_of b) && same_name a b) ≡ same_name a b
same_or_other a b = go (same_name a b) refl where
  go : (t : Bool) → same_name a b ≡ t → (eqb (key_of a) (key_of b) && same_name a b) ≡ same_name a b
  go true e = rw (eq-eqb (key_of a) (key_of b) (same_key a b e))
  go false e = rw e (and-false (eqb (key_of a) (key_of b)))

-- the first of some records that has a name, or what follows them
either_first :
    (holder : Holder) (b : Bool) (e : Entry) (rest : Sought) (more : Holding) →
    cond b (held holder e) (or_else (held_in holder rest) more) ≡ or_else (held_in holder (cond b (present e) rest)) more
either_first holder true e rest more = refl
either_first holder false e rest more = refl

-- among the lines of one table's records and of others
module _ (farm house : List ℕ) (holder : Holder) (name others : List ℕ) where
  abbrev table : List ℕ
  table = held_by holder farm house

  abbrev Among : List Entry → Type 0
  Among es =
      sought_by farm house (lines_of holder es ++ others) name
      ≡ or_else (held_in holder (sought es name)) (sought_by farm house others name)

  module _ (place : ℕ) where
    abbrev key : ℕ
    key = key_of (name_at table place)

    small : key < 32768
    small = key_small (name_at table place)

    recorded : record_by farm house (line_of holder (entry_at table place)) ≡ entry_at table place
    unfolding record_by entry_at
    recorded = rw (holder_in holder place key small, place_in_lem holder place key small)

    keyed : (eqb (line_of holder (entry_at table place) % 32768) (key_of name) && same_name (entry_at table place).name name) ≡ same_name (entry_at table place).name name
    unfolding entry_at
    keyed = rw (key_in holder place key small) (same_or_other (name_at table place) name)

    named : names farm house (line_of holder (entry_at table place)) name ≡ same_name (entry_at table place).name name
    named =
        ap (λ (e : Entry). eqb (line_of holder (entry_at table place) % 32768) (key_of name) && same_name e.name name) recorded
        ∙ keyed

    marked : holder_of (line_of holder (entry_at table place)) ≡ holder
    unfolding entry_at
    marked = holder_in holder place key small

    one_more : (es : List Entry) → Among es → Among (entry_at table place ∷ es)
    unfolding sought_by sought
    one_more es e =
        rw (named, recorded, marked, e)
        (either_first holder (same_name (entry_at table place).name name) (entry_at table place) (sought es name) (sought_by farm house others name))

  by_lines : (left stop place : ℕ) → Among (entries left table stop place)
  unfolding sought_by sought entries
  by_lines zero stop place = refl
  by_lines (suc left) stop place =
      either Among (ltb place stop)
      (λ _. one_more place (entries left table stop (next_place table place)) (by_lines left stop (next_place table place)))
      (λ _. refl)

  pub by_records : (stop : ℕ) → Among (before table stop)
  by_records stop = by_lines most stop 0

-- which of the two holds it says nothing where both are one
pub both_one : (holder : Holder) (table : List ℕ) → held_by holder table table ≡ table
both_one Farm _ = refl
both_one House _ = refl

pub or_nowhere : (h : Holding) → or_else h nowhere ≡ h
or_nowhere nowhere = refl
or_nowhere (held holder e) = refl

-- the lines of one table alone
pub by_own :
    (table name : List ℕ) (stop : ℕ) {keys : List ℕ} (own : LinesBefore table stop keys) →
    sought_by table table keys name ≡ held_in own.0 (sought (before table stop) name)
unfolding sought_by
by_own table name stop own =
    let holder = own.0 in
    let alone = by_records table table holder name [] stop in
    ap (λ ks. sought_by table table ks name) (own.1 ∙ sym (append-nil (lines_of holder (before table stop))))
    ∙ rw (both_one holder table) at alone
    ∙ or_nowhere (held_in holder (sought (before table stop) name))
