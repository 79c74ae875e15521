-- `rises` meets its contract. The loop's invariant: the entries before rise, and the last place is that of the one before.
use mathlib.Core.Bool.{Bool, true, false, false≢true}
use mathlib.Core.List.{List}
use mathlib.Core.Path.{◌≡◌, ap, ap₂, sym, ◌∙◌}
use Prim.Native.Nat.{ℕ, ◌+◌, ◌-◌, ◌<◌, ◌≤◌}
use native.Mathlib.Decide.{dec_lt}
use native.Mathlib.Omega.{arith}
use borrow.Author.Count.{below_more}
use Rattle.paper.specs.declared.bits.Bits.{Bits}
use Rattle.records.specs.Records.{name_at, comes_before}
use Rattle.indexes.specs.inner.Halving.{place_in, name_in}
use Rattle.lookups.specs.inner.Fitting.{marked, Rises}
use Rattle.lookups.proofs.fitting.rises.Goals as goal

-- the place of an entry is that of the one before the next
before_next : (index : List ℕ) (entry : ℕ) {place : ℕ} → place ≡ place_in index entry → (k : ℕ) → k + 1 ≡ entry + 1 → place ≡ place_in index k
before_next index entry p k q = p ∙ ap (place_in index) (omega arith)

module _ (table : List ℕ) (marks : Bits 2048) (index : List ℕ) where
  none : Rises table marks index 0
  none = record { places = λ k h. absurd (omega arith); rising = λ k h. absurd (omega arith) }

  -- the last entry and the next: how their names stand to each other
  stand :
      {last place entry : ℕ} {b : Bool} → ((k : ℕ) → k + 1 ≡ entry → last ≡ place_in index k) → place ≡ place_in index entry →
      comes_before (name_at table last) (name_at table place) ≡ b →
      (k : ℕ) → k + 1 ≡ entry → comes_before (name_in table index k) (name_in table index (k + 1)) ≡ b
  stand l p t k q = ap₂ (λ x y. comes_before (name_at table x) (name_at table y)) (sym (l k q)) (ap (place_in index) q ∙ sym p) ∙ t

  one_more :
      {place entry : ℕ} → Rises table marks index entry → place ≡ place_in index entry → marked marks place ≡ true →
      ((k : ℕ) → k + 1 ≡ entry → comes_before (name_in table index k) (name_in table index (k + 1)) ≡ true) → Rises table marks index (entry + 1)
  one_more {entry = entry} r p m t =
      record {
        places = below_more (λ k. marked marks (place_in index k) ≡ true) entry r.places (ap (marked marks) (sym p) ∙ m);
        rising = λ k h. go k h (dec_lt (k + 1) entry);
      } where
        go : (k : ℕ) → k + 1 < entry + 1 → Dec (k + 1 < entry) → comes_before (name_in table index k) (name_in table index (k + 1)) ≡ true
        go k h (yes l) = r.rising k l
        go k h (no n) = t k (omega arith)

  module _ {count place entry : ℕ} (h : entry < count) (p : place ≡ place_in index entry) where
    unmarked_here : marked marks place ≡ false → Rises table marks index count → ⊥
    unmarked_here m r = false≢true (sym m ∙ ap (marked marks) p ∙ r.places entry h)

    behind_here :
        {last : ℕ} → 1 ≤ entry → ((k : ℕ) → k + 1 ≡ entry → last ≡ place_in index k) →
        comes_before (name_at table last) (name_at table place) ≡ false → Rises table marks index count → ⊥
    behind_here some l t r =
        let back : entry - 1 + 1 ≡ entry = omega arith in
        false≢true (sym (stand l p t (entry - 1) back) ∙ r.rising (entry - 1) (omega arith))

-- two names that were compared
compared :
    (table : List ℕ) (last place : ℕ) {a b : List ℕ} {r t : Bool} → a ≡ name_at table last → b ≡ name_at table place →
    r ≡ comes_before a b → r ≡ t → comes_before (name_at table last) (name_at table place) ≡ t
compared table last place p q s e = ap₂ comes_before (sym p) (sym q) ∙ sym s ∙ e

pub returns-then-count-eq0 : goal.returns-then-count-eq0
returns-then-count-eq0 c =
    let zero_of = c.if-count-eq0.true in
    (λ _. rw zero_of (none _ _ _), λ e. absurd (false≢true (sym e)))

pub returns-then-not-has : goal.returns-then-not-has
returns-then-not-has c =
    let told = sym c.has.ensures ∙ c.if-not-has.true in
    (λ e. absurd (false≢true e), λ _. unmarked_here _ _ _ {entry = 0} (omega arith) c.place_at-last.ensures.0 told)

pub loop-entry-init : goal.loop-entry-init
loop-entry-init c =
    let told = sym c.has.ensures ∙ c.if-not-has.false in
    let there = c.place_at-last.ensures.0 in (
      omega arith,
      omega arith,
      one_more _ _ _ {entry = 0} (none _ _ _) there told (λ k q. absurd (omega arith)),
      before_next _ 0 there,
    )

pub returns-then-not-has-2 : goal.returns-then-not-has-2
returns-then-not-has-2 c =
    let told = sym c.has-in-loop-entry.ensures ∙ c.if-not-has-2.true in
    (λ e. absurd (false≢true e), λ _. unmarked_here _ _ _ c.loop-entry-test.true c.place_at-place.ensures.0 told)

pub returns-then-not-comes_before : goal.returns-then-not-comes_before
returns-then-not-comes_before c =
    let i = c.loop-entry.invariant in
    let told = compared c.args.table.now c.loop-entry.last c.place_at-place.result c.name_at.ensures c.name_at-in-loop-entry.ensures c.comes_before.ensures c.if-not-comes_before.true in
    (λ e. absurd (false≢true e), λ _. behind_here _ _ _ c.loop-entry-test.true c.place_at-place.ensures.0 i.0 i.3 told)

pub loop-entry-preserved : goal.loop-entry-preserved
loop-entry-preserved c =
    let i = c.loop-entry.invariant in
    let there = c.place_at-place.ensures.0 in
    let told = compared c.args.table.now c.loop-entry.last c.place_at-place.result c.name_at.ensures c.name_at-in-loop-entry.ensures c.comes_before.ensures c.if-not-comes_before.false in
    let marked-here = sym c.has-in-loop-entry.ensures ∙ c.if-not-has-2.false in (
      omega arith,
      omega arith,
      one_more _ _ _ i.2 there marked-here (stand _ c.args.marks.now _ i.3 there told),
      before_next _ _ there,
    )

pub returns : goal.returns
returns c =
    let i = c.loop-entry.invariant in
    let all : c.loop-entry.entry ≡ c.args.count = omega arith in
    (λ _. rw (← all) i.2, λ e. absurd (false≢true (sym e)))
