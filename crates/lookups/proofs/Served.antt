-- The two walks of a table and an index tell whether the table is good and the index fits it.
use mathlib.Core.Bool.{Bool, true, false, and-eq-true_iff, false≢true}
use mathlib.Core.List.Memᴰ
use mathlib.Core.List.{List, [], Memᴰ}
use mathlib.Core.Logic.{inl}
use mathlib.Core.Path.{◌≡◌, refl, ap, sym, subst, ◌∙◌}
use Prim.Native.Nat.{ℕ, ◌*◌, ◌≤◌}
use native.Mathlib.Omega.{arith}
use lib.ListN.{length, get_or}
use Rattle.std.proofs.Common.{Some, None}
use Rattle.paper.specs.declared.bits.Bits.{Bits}
use Rattle.records.specs.Records.{Entry, same_bytes, entry_at}
use Rattle.records.proofs.Equal.{same_bytes_lem, bytes_same}
use Rattle.variables.specs.Tables.{records_of, checked}
use Rattle.std.specs.Prelude.{Result, Ok, Err, is_ok}
use Rattle.paper.specs.declared.refusals.BadTable.{BadTable}
use Rattle.variables.proofs.Chain.{starts}
use Rattle.variables.proofs.Good.{laid}
use Rattle.variables.proofs.Unique.{apart}
use Rattle.indexes.specs.Indexes.{place_bytes, in_order, index_of}
use Rattle.indexes.proofs.Searching.{bytes_long}
use Rattle.indexes.proofs.Sorting as Sorting
use Rattle.indexes.proofs.Sorting.{Strict, among_these, kept, all_long, weak_all, strict_order, unlike, only}
use Rattle.lookups.specs.inner.Fitting.{shaped_in, Rises}
use Rattle.lookups.specs.inner.Through.{serves}
use Rattle.lookups.proofs.MarkLaws.{Low, MarksOf, at_from, starts_here}
use Rattle.lookups.proofs.Shapes.{some_same, none_some, few_so, earlier, Shaped, shaped_so, good_shaped, count_of, good}
use Rattle.lookups.proofs.Rising.{led, led_long, led_bytes, led_strict, Marked, led_marked, risen}

module _ (table index : List ℕ) (short : length table ≤ 65535) where
  all_low : {n : ℕ} → Shaped table n → Low (records_of table)
  all_low s e m = omega (arith, earlier s.chain m)

  -- where both walks pass
  module _
      {n : ℕ} (s : Shaped table n) (long : length index ≡ 2 * n) (bytes : (k : ℕ) → get_or index k 0 ≤ 255)
      {marks : Bits 2048} (all : MarksOf (records_of table) marks) (r : Rises table marks index n) where
    -- the index leads to records of the table only
    of_table : {f : Entry} → Marked table marks f → Memᴰ f (records_of table)
    of_table {f} m =
        let a = at_from (records_of table) m.place (sym (all m.place) ∙ m.there) in
        let same : f ≡ a.entry = m.starts ∙ ap (entry_at table) (sym a.there) ∙ sym (starts s.chain a.among) in
        Memᴰ.cast same a.among

    -- so to all of them, in their order
    led_all : led table index ≡ in_order table
    led_all =
        only (led_strict table marks index n long r) (weak_all (records_of table) Sorting.nothing)
        (λ f m. kept (records_of table) [] (inl (of_table (led_marked table marks index n long bytes r m))))
        (omega (arith, all_long (records_of table) [], s.counted, led_long table index n long))

    in_order_lem : Strict (in_order table)
    in_order_lem = subst Strict led_all (led_strict table marks index n long r)

    is_good_lem : checked table ≡ Ok n
    is_good_lem = good s (λ e f a b d. unlike in_order_lem (kept (records_of table) [] (inl a)) (kept (records_of table) [] (inl b)) d) short

    pub passing : serves table index ≡ true
    passing =
        let whole : index ≡ index_of table = led_bytes table index n long bytes ∙ ap place_bytes led_all in
        rw is_good_lem (ap (same_bytes index) (sym whole) ∙ same_bytes_lem index)

  -- where the table is good and the index is its own
  pub record Passes : Type 0 where
    pub count : ℕ
    pub counted : shaped_in table ≡ Some count
    pub long : length index ≡ 2 * count
    pub rises : (marks : Bits 2048) → MarksOf (records_of table) marks → Rises table marks index count

  good_count : (r : Result ℕ BadTable) → is_ok r ≡ true → (n : ℕ) × (r ≡ Ok n)
  good_count (Ok n) e = (n, refl)
  good_count (Err bad) e = absurd (false≢true e)

  pub passes : serves table index ≡ true → Passes
  passes e =
      let both = (and-eq-true_iff (is_ok (checked table)) (same_bytes index (index_of table))).0 e in
      let counted = good_count (checked table) both.0 in
      let whole = bytes_same index (index_of table) both.1 in
      of_good counted.0 counted.1 whole where
        of_good : (n : ℕ) → checked table ≡ Ok n → index ≡ index_of table → Passes
        of_good n g whole =
            let l = laid table g in
            let s = good_shaped l in
            let whole_long : length (in_order table) ≡ n = all_long (records_of table) [] ∙ omega (arith, l.counted) in
            let up = λ (marks : Bits 2048) (all : MarksOf (records_of table) marks). risen table marks (strict_order (apart l)) (λ e m. all_low s e (among_these (records_of table) m))
            (λ e m. starts l.chain (among_these (records_of table) m))
            (λ e m. all e.place ∙ starts_here (records_of table) (among_these (records_of table) m)) in
            record {
              count = n;
              counted = count_of s;
              long = ap length whole ∙ bytes_long (in_order table) ∙ ap (λ k. 2 * k) whole_long;
              rises = λ marks all. rw (whole, ← whole_long) (up marks all);
            }

  -- what the walks tell
  refused : (b : Bool) → (b ≡ true → ⊥) → false ≡ b
  refused true n = absurd (n refl)
  refused false n = refl

  pub none_serves : None ≡ shaped_in table → false ≡ serves table index
  none_serves c = refused (serves table index) (λ e. none_some (c ∙ (passes e).counted))

  module _ {count : ℕ} (c : Some count ≡ shaped_in table) where
    pub other_length : (length index ≡ 2 * count → ⊥) → false ≡ serves table index
    other_length n = refused (serves table index) (λ e. let p = passes e in n (p.long ∙ ap (λ k. 2 * k) (some_same (sym p.counted ∙ sym c))))

    pub told :
        {marks : Bits 2048} (r : Bool) → MarksOf (records_of table) marks → length index ≡ 2 * count → ((k : ℕ) → get_or index k 0 ≤ 255) →
        (r ≡ true → Rises table marks index count) → (r ≡ false → Rises table marks index count → ⊥) → r ≡ serves table index
    told true all long bytes up down = sym (passing (shaped_so table count (few_so table (sym c)) (sym c)) long bytes all (up refl))
    told {marks} false all long bytes up down =
        refused (serves table index) (λ e. let p = passes e in down refl (subst (Rises table marks index) (some_same (sym p.counted ∙ sym c)) (p.rises marks all)))
