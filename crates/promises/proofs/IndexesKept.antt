-- What `build_index` promises is kept.
use mathlib.Core.Path.{◌≡◌, refl, ap, sym, subst, subst₂, ◌∙◌}
use mathlib.Core.Bool.{true, false≢true}
use mathlib.Core.List.Memᴰ
use mathlib.Core.List.Memᴰ.{head}
use mathlib.Core.List.Memᴰ.{tail}
use mathlib.Core.List.{List, [], ◌∷◌, ◌++◌, append-nil, Memᴰ}
use mathlib.Core.Logic.{◌↔◌, inl}
use Prim.Native.Nat.{ℕ, zero, suc, ◌+◌, ◌*◌, ◌-◌, ◌/◌, ◌^◌, ◌≤◌, ◌<◌}
use native.Mathlib.Decide.{dec_lt, ℕ_discrete}
use native.Mathlib.Omega.{arith}
use borrow.Author.Tests.{lt-ltb, le-ltb, eq-eqb, ne_eqb}
use lib.ListN.{length, get_or, take, drop, length-append}
use lib.Seq.{take_at, drop_at, get_or-append_seam}
use Rattle.paper.specs.Answers.{in_text, in_house, Answer, refusal, Grown, GrownWhole}
use Rattle.paper.specs.Refusals.{no_room}
use Rattle.records.specs.Records.{Entry, small, comes_before}
use Rattle.records.proofs.Equal.{reflexive, same_bytes_lem, bytes_same}
use Rattle.records.proofs.Order as Order
use Rattle.variables.specs.Tables.{checked, check_number, check_place, check_count, records_of}
use Rattle.std.specs.Prelude.{Result, Ok, Err}
use Rattle.paper.specs.declared.refusals.BadTable.{BadTable}
use Rattle.variables.proofs.Bounds.{checked_bounded, good_table}
use Rattle.variables.proofs.Good.{laid}
use Rattle.variables.proofs.Unique.{apart}
use Rattle.indexes.specs.Indexes.{given_index, index_of, in_order, inserted_all, place_bytes}
use Rattle.indexes.specs.Buildings.{built_over, built, laid_by, index_after, built_answer, build_numbers}
use Rattle.indexes.specs.inner.Halving.{place_in, nearest}
use Rattle.indexes.specs.declared.building.Built.{Built}
use Rattle.indexes.specs.declared.building.NotBuilt.{NotBuilt}
use Rattle.indexes.specs.declared.building.NotBuilt.TheVariants.{NoRoom}
use Rattle.indexes.proofs.Entries.{place_in_lem}
use Rattle.indexes.proofs.Searching.{bytes_long, search_same, in_order_listed}
use Rattle.indexes.proofs.Sorting as Sorting
use Rattle.indexes.proofs.Sorting.{Strict, Weak, strict_order, strict_more, weak_all, kept, all_long}
use Rattle.promises.proofs.LookupsKept as Lookups
use Rattle.promises.proofs.TranslationsKept as Translations
use Rattle.promises.specs.Accepted.{is_built}
use Rattle.promises.specs.Allowed.{Builds}
use Rattle.promises.specs.Indexes as Promised
use Rattle.promises.specs.Indexes.{Rise, Arranged, OneArrangement, OneAnswer, Accepts, Refusals, Exactly, Exact, LargerRoom, SecondAsk, Fits, BuiltFits, ByNumber, Halves, ByHalving}

begins : (a : List ℕ) (c : ℕ) (rest : List ℕ) → comes_before a (a ++ (c ∷ rest)) ≡ true
unfolding comes_before
begins [] c rest = refl
begins (x ∷ a) c rest = rw (le-ltb (small x) (small x) (omega arith), eq-eqb (small x) (small x) refl) (begins a c rest)

by_bytes : (front a b : List ℕ) (x y : ℕ) → small x < small y → comes_before (front ++ (x ∷ a)) (front ++ (y ∷ b)) ≡ true
unfolding comes_before
by_bytes [] a b x y h = rw (lt-ltb (small x) (small y) h)
by_bytes (z ∷ front) a b x y h = rw (le-ltb (small z) (small z) (omega arith), eq-eqb (small z) (small z) refl) (by_bytes front a b x y h)

pub order : Promised.Order
order =
    record {
      not_itself = λ a. Order.not_itself a a (reflexive a);
      through = Order.through;
      equal = Order.neither_exactly;
      beginning = begins;
      by_bytes = by_bytes;
    }

-- neighbours that rise are all in order, and the other way round
rise_strict : (es : List Entry) → Rise es → Strict es
rise_strict [] r = Sorting.nothing
rise_strict (e ∷ []) r = Sorting.first (λ f m. absurd (Memᴰ.not-nil m)) Sorting.nothing
rise_strict (e ∷ f ∷ es) r = strict_more (r [] e f es refl) (rise_strict (f ∷ es) (λ front g h back q. r (e ∷ front) g h back (ap (◌∷◌ e) q)))

strict_back : (front : List Entry) {back : List Entry} → Strict (front ++ back) → Strict back
strict_back [] s = s
strict_back (g ∷ front) (Sorting.first b s) = strict_back front s

strict_rise : {es : List Entry} → Strict es → Rise es
strict_rise s front e f back q = by_first (strict_back front (subst Strict q s)) where
  by_first : Strict (e ∷ f ∷ back) → comes_before e.name f.name ≡ true
  by_first (Sorting.first b t) = b f (head refl)

-- the low byte of each place
low_byte : (es : List Entry) (k : ℕ) → get_or (place_bytes es) (2 * k) 0 < 256
low_byte [] k = omega arith
low_byte (e ∷ es) zero = omega arith
low_byte (e ∷ es) (suc k) =
    let two : 2 * suc k ≡ suc (suc (2 * k)) = omega arith in
    rw two (low_byte es k)

-- a place as its two bytes have it
place_of : (es front : List Entry) (e : Entry) (back : List Entry) → ((f : Entry) → Memᴰ f es → f.place ≤ 65535) → es ≡ front ++ (e ∷ back)
    → get_or (place_bytes es) (2 * length front) 0 + 256 * get_or (place_bytes es) (2 * length front + 1) 0 ≡ e.place
unfolding place_in
place_of es front e back low q =
    let inside : length front < length es = omega (arith, ap length q ∙ length-append front (e ∷ back)) in
    ap (λ bytes. place_in bytes (length front)) (sym (append-nil (place_bytes es))) ∙ place_in_lem es [] (length front) e low inside
    ∙ ap (λ (f : Entry). f.place) (ap (λ l. get_or l (length front) e) q ∙ get_or-append_seam front e back e)

pub one_arrangement : OneArrangement
one_arrangement table z =
    let l = laid table (good_table table z).1 in
    let strict = strict_order (apart l) in
    let many : length (in_order table) ≡ length (records_of table) = omega (arith, all_long (records_of table) []) in
    record {
      rise = strict_rise strict;
      all = λ e m. kept (records_of table) [] (inl m);
      many = many;
      only = λ es r inside long.
          Sorting.only (rise_strict es r) (weak_all (records_of table) Sorting.nothing) (λ e m. kept (records_of table) [] (inl (inside e m))) (omega (arith, many, long));
      places = λ front e back q. (
        place_of (in_order table) front e back (in_order_listed l).low q,
        low_byte (in_order table) (length front),
      );
    }

pub one_answer : OneAnswer
one_answer table out after after' r r' c c' = (c.answer ∙ sym c'.answer, c.buffer ∙ sym c'.buffer)

-- how building can come out
data Outcome (table out : List ℕ) : Result Built NotBuilt → List ℕ → Type 0 where
  not_good : (d : Result ℕ BadTable) → checked table ≡ d → (check_number d ≡ 0 → ⊥) → Outcome table out (built_over d (length out)) out
  lacks : (n : ℕ) → checked table ≡ Ok n → length out < 2 * n → Outcome table out (Err (NoRoom (2 * n) (length out))) out
  lays : (n : ℕ) → checked table ≡ Ok n → 2 * n ≤ length out → Outcome table out (Ok (record { need = 2 * n; free = length out - 2 * n })) (index_of table ++ drop (2 * n) out)

module _ (table out : List ℕ) where
  of_check : (d : Result ℕ BadTable) → checked table ≡ d → Outcome table out (built_over d (length out)) (laid_by (built_over d (length out)) (index_of table) out)
  of_check (Err b) e =
      not_good (Err b) e (λ z. omega (arith, (checked_bounded table).refused b e))
  of_check (Ok n) e = go (dec_lt (length out) (2 * n)) where
    go : Dec (length out < 2 * n) → Outcome table out (built_over (Ok n) (length out)) (laid_by (built_over (Ok n) (length out)) (index_of table) out)
    go (yes h) = rw (lt-ltb (length out) (2 * n) h) (lacks n e h)
    go (no h) = rw (le-ltb (length out) (2 * n) (omega arith)) (lays n e (omega arith))

  outcome : {r : Result Built NotBuilt} {after : List ℕ} → Builds table out r after → Outcome table out r after
  unfolding built index_after
  outcome c = rw (c.answer, c.buffer) (of_check (checked table) refl)

pub accepts : Accepts
accepts table out after r c = go (outcome table out c)
  where
    go : {r : Result Built NotBuilt} {after : List ℕ} → Outcome table out r after → ((built_answer r).number ≡ 0) ↔ (is_built r ≡ true)
    go (not_good (Ok n) e z) = absurd (z refl)
    go (not_good (Err b) e z) = (λ q. absurd (z q), λ q. absurd (false≢true q))
    go (lacks n e h) = (λ q. absurd (omega arith), λ q. absurd (false≢true q))
    go (lays n e h) = (λ _. refl, λ _. refl)

pub refusals : Refusals
refusals table out after r c = go (outcome table out c)
  where
    go : {r : Result Built NotBuilt} {after : List ℕ} → Outcome table out r after → Memᴰ (built_answer r).number build_numbers
    go (not_good (Ok n) e z) = absurd (z refl)
    go (not_good (Err b) e z) = Memᴰ.append_left (no_room ∷ []) (Memᴰ.cast (ap check_number (sym e)) (checked_bounded table).listed)
    go (lacks n e h) = tail (tail (tail (head refl)))
    go (lays n e h) = head refl

-- an index is as long as its need
index_long : (table : List ℕ) {n : ℕ} → checked table ≡ Ok n → length (index_of table) ≡ 2 * n
index_long table e = omega (arith, bytes_long (inserted_all (records_of table) []), all_long (records_of table) [], (laid table e).counted)

pub exact : Exact
exact table out after r c = go (outcome table out c)
  where
    go : {r : Result Built NotBuilt} {after : List ℕ} → Outcome table out r after → Exactly table out after (built_answer r)
    go (not_good (Ok n) e z) = absurd (z refl)
    go (not_good (Err b) e z) =
        record {
          refused = λ _. (ap (λ d. refusal (check_number d) in_house (check_place d) (length out)) (sym e), refl);
          lacking = λ q h. absurd (z (sym (ap check_number e) ∙ q));
          built = λ q h. absurd (z (sym (ap check_number e) ∙ q));
        }
    go (lacks n e h) =
        record {
          refused = λ q. absurd (q (ap check_number e));
          lacking = λ _ _. (
            ap (λ d. record { number = no_room; counted = in_text; place = 0; need = 2 * check_count d; free = length out }) (sym e),
            refl,
          );
          built = λ _ k. absurd (omega (arith, h, k, ap check_count e));
        }
    go (lays n e h) =
        record {
          refused = λ q. absurd (q (ap check_number e));
          lacking = λ _ k. absurd (omega (arith, h, k, ap check_count e));
          built = λ _ _. (refl, refl, refl, omega (arith, ap check_count e), omega arith, index_long table e, refl);
        }

-- a check's refusal is not No room
not_lacking : (table : List ℕ) → check_number (checked table) ≡ no_room → ⊥
not_lacking table = go (checked table) refl
  where
    go : (d : Result ℕ BadTable) → checked table ≡ d → check_number d ≡ no_room → ⊥
    go (Ok n) e z = omega arith
    go (Err b) e z = omega (arith, z, (checked_bounded table).refused b e)

-- the three ways of an answer, by the check and the room
module _ (table out after : List ℕ) (r : Result Built NotBuilt) (c : Builds table out r after) where
  abbrev x : Exactly table out after (built_answer r)
  x = exact table out after r c

  -- where it is accepted, the table is good and the room is enough
  was_built : (built_answer r).number ≡ 0 → (check_number (checked table) ≡ 0) × (2 * check_count (checked table) ≤ length out)
  was_built z = go (ℕ_discrete (check_number (checked table)) 0) (dec_lt (length out) (2 * check_count (checked table)))
    where
      go : Dec (check_number (checked table) ≡ 0) → Dec (length out < 2 * check_count (checked table)) →
          (check_number (checked table) ≡ 0) × (2 * check_count (checked table) ≤ length out)
      go (no n) d = absurd (n (sym (ap (λ (a : Answer). a.number) (x.refused n).0) ∙ z))
      go (yes g) (yes l) = let same = ap (λ (a : Answer). a.number) (x.lacking g l).0 in absurd (omega (arith, z, same))
      go (yes g) (no l) = (g, omega arith)

  -- and where it lacks room, the table is good and the need is twice its records
  was_lacking : (built_answer r).number ≡ no_room → (check_number (checked table) ≡ 0) × ((built_answer r).need ≡ 2 * check_count (checked table))
  was_lacking z = go (ℕ_discrete (check_number (checked table)) 0) (dec_lt (length out) (2 * check_count (checked table)))
    where
      go : Dec (check_number (checked table) ≡ 0) → Dec (length out < 2 * check_count (checked table)) →
          (check_number (checked table) ≡ 0) × ((built_answer r).need ≡ 2 * check_count (checked table))
      go (no n) d = absurd (not_lacking table (sym (ap (λ (a : Answer). a.number) (x.refused n).0) ∙ z))
      go (yes g) (yes l) = (g, ap (λ (a : Answer). a.need) (x.lacking g l).0)
      go (yes g) (no l) = absurd (omega (arith, z, (x.built g (omega arith)).0))

pub larger_room : LargerRoom
larger_room table more out after out' after' r r' longer c c' n =
    go (ℕ_discrete (check_number (checked table)) 0) (dec_lt (length out) (2 * check_count (checked table)))
  where
    y : Exactly table out after (built_answer r)
    y = exact table out after r c

    y' : Exactly table out' after' (built_answer r')
    y' = exact table out' after' r' c'

    go : Dec (check_number (checked table) ≡ 0) → Dec (length out < 2 * check_count (checked table)) → GrownWhole after out' after' more (built_answer r) (built_answer r')
    go (no bad) d =
        let b = y.refused bad in
        let b' = y'.refused bad in
        let need : (built_answer r).need ≡ 0 = ap (λ (a : Answer). a.need) b.0 in
        record {
          answer = subst₂ (Grown more) (sym b.0) (sym b'.0) (record { number = refl; counted = refl; place = refl; need = refl; free = longer });
          written = ap (λ n. take n after') need ∙ sym (ap (λ n. take n after) need);
          behind = ap (drop (built_answer r).need) b'.1;
        }
    go (yes g) (yes l) = absurd (n (ap (λ (a : Answer). a.number) (y.lacking g l).0))
    go (yes g) (no l) =
        let b = y.built g (omega arith) in
        let b' = y'.built g (omega (arith, longer)) in
        let same : (built_answer r').need ≡ (built_answer r).need = b'.3 ∙ sym b.3 in
        let index : List ℕ = index_of table in
        record {
          answer = record {
            number = b'.0 ∙ sym b.0;
            counted = b'.1 ∙ sym b.1;
            place = b'.2 ∙ sym b.2;
            need = same;
            free = omega (arith, b.4, b'.4, same, longer);
          };
          written =
              ap (take (built_answer r).need) b'.6 ∙ take_at index (drop (built_answer r').need out') (built_answer r).need b.5
              ∙ sym (ap (take (built_answer r).need) b.6 ∙ take_at index (drop (built_answer r).need out) (built_answer r).need b.5);
          behind =
              ap (drop (built_answer r).need) b'.6 ∙ drop_at index (drop (built_answer r').need out') (built_answer r).need b.5
              ∙ ap (λ n. drop n out') same;
        }

pub second_ask : SecondAsk
second_ask table out after out' after' r r' c lacking enough c' =
    let w = was_lacking table out after r c lacking in
    ((exact table out' after' r' c').built w.0 (omega (arith, w.1, enough))).0

pub fits_exactly : Fits
fits_exactly table index = (bytes_same index (index_of table), λ e. rw e (same_bytes_lem (index_of table)))

pub built_fits : BuiltFits
built_fits farm house out after b c z =
    let w = was_built house out after b c z in
    let y = (exact house out after b c).built w.0 w.1 in
    let index : List ℕ = take (built_answer b).need after in
    let is : index ≡ index_of house = ap (take (built_answer b).need) y.6 ∙ take_at (index_of house) (drop (built_answer b).need out) (built_answer b).need y.5 in
    let fit = (fits_exactly house index).1 is in (
      λ name r l q. false≢true (sym ((Lookups.misfits farm house (given_index index) name r l).0.0 q).2 ∙ fit),
      λ text flags allowance buf left r t q.
          false≢true (sym ((Translations.misfits text farm house (given_index index) flags allowance buf left r t).0 q).1 ∙ fit),
    )

pub by_number : ByNumber
by_number index house = record { none = refl; one = λ n. rw (ne_eqb (suc n) 0 (λ e. omega arith)); nothing_to_fit = refl }

-- halvings that are not needed change nothing
module _ (table index name : List ℕ) where
  rests : (more first size : ℕ) → size ≤ 1 → nearest more table index name first size ≡ first
  unfolding nearest
  rests zero first size h = refl
  rests (suc more) first size h = rw (le-ltb 1 size h)

  stable : (m more first size : ℕ) → size ≤ 2 ^ m → nearest (m + more) table index name first size ≡ nearest m table index name first size
  unfolding nearest
  stable zero more first size h = rests (0 + more) first size (omega (arith, h))
  stable (suc m) more first size h =
      let on : suc m + more ≡ suc (m + more) = omega arith in
      rw (on, stable m more first (size / 2) (omega (arith, h)), stable m more (first + size / 2) (size - size / 2) (omega (arith, h)))

pub by_halving : ByHalving
by_halving table name z =
    record {
      same = search_same (laid table (good_table table z).1) name;
      enough = λ index count more few. stable table index name 8 more 0 count (omega arith);
    }
