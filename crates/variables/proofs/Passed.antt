-- What a check that came to a place has passed: records one behind the other, and their lines at the start of the keys.
use mathlib.Core.List.{List, [], ◌∷◌, ◌++◌, map-append, append-nil, append_assoc}
use mathlib.Core.Path.{◌≡◌, refl, ap, sym, subst, ◌∙◌}
use Prim.Native.Nat.{ℕ, zero, suc, ◌+◌, ◌-◌, ◌<◌, ◌≤◌}
use native.Mathlib.Omega.{arith}
use lib.Dec.{ltb}
use lib.ListN.{length, get_or, set, take, drop, length-map, length-append, length-drop}
use lib.Seq.{drop-cons, append_snoc, set-append_seam, take-append_seam, drop-append_seam, take-length, drop-length, drop-drop}
use Rattle.paper.specs.Refusals.{too_long}
use Rattle.paper.specs.declared.Holder.{Holder}
use Rattle.paper.specs.declared.Holder.TheVariants.{Farm, House}
use Rattle.paper.proofs.Choice.{either}
use Rattle.records.specs.Records.{next_place, entry_at}
use Rattle.variables.specs.Tables.{most, entries, before, scan}
use Rattle.variables.specs.inner.Keys.{line_of, lines_of, laid_over, reach, passed_lines, behind_farm, both_lines, judged_lines}
use Rattle.std.specs.Prelude.{Result, Ok, Err}
use Rattle.paper.specs.declared.refusals.BadTable.{BadTable}
use Rattle.variables.proofs.Chain.{Chain, end, none_left, exact, snoc}

-- one line more behind others
laid_more :
    (lines keys : List ℕ) (line : ℕ) → length lines < length keys →
    set (laid_over lines keys) (length lines) line ≡ laid_over (lines ++ (line ∷ [])) keys
laid_more lines keys line h =
    let long : length (lines ++ (line ∷ [])) ≡ suc (length lines) = length-append lines (line ∷ []) ∙ omega arith in
    rw (long, drop-cons keys (length lines) 0 h)
    (set-append_seam lines (get_or keys (length lines) 0) (drop (suc (length lines)) keys) line
    ∙ sym (append_snoc lines line (drop (suc (length lines)) keys)))

pub laid_part : (lines keys : List ℕ) → take (length lines) (laid_over lines keys) ≡ lines
laid_part lines keys = take-append_seam lines (drop (length lines) keys)

-- lines laid behind others, into the part of an array that those leave
pub laid_behind :
    (lines more keys keys₁ : List ℕ) (own : ℕ) → length lines ≡ own → keys₁ ≡ laid_over lines keys →
    take own keys₁ ++ (laid_over more (take (length keys₁ - own) (drop own keys₁)) ++ drop (length keys₁ - own) (drop own keys₁))
    ≡ laid_over (lines ++ more) keys
laid_behind lines more keys keys₁ own l e =
    let rest : List ℕ = drop (length lines) keys in
    let front : take own keys₁ ≡ lines = rw (e, ← l) (take-append_seam lines rest) in
    let back : drop own keys₁ ≡ rest = rw (e, ← l) (drop-append_seam lines rest) in
    let count : length keys₁ - own ≡ length rest = omega (arith, ap length e ∙ length-append lines rest, l) in
    let far : drop (length (lines ++ more)) keys ≡ drop (length more) rest =
    ap (λ n. drop n keys) (length-append lines more) ∙ sym (drop-drop (length more) (length lines) keys) in
    rw (front, back, count, take-length rest, drop-length rest, far)
    (ap (◌++◌ lines) (append-nil (more ++ drop (length more) rest)) ∙ sym (append_assoc lines more (drop (length more) rest)))

pub record Passed (holder : Holder) (table keys₀ keys : List ℕ) (count place : ℕ) : Type 0 where
  pub chain : Chain table place 0 (before table place)
  pub counted : length (before table place) ≡ count
  pub laid : keys ≡ laid_over (lines_of holder (before table place)) keys₀

module _ (holder : Holder) (table keys₀ : List ℕ) where
  pub at_first : Passed holder table keys₀ keys₀ 0 0
  at_first =
      let none = none_left table 0 0 most (omega arith) in
      record {
        chain = subst (Chain table 0 0) (sym none) (end refl);
        counted = ap length none;
        laid = ap (λ es. laid_over (lines_of holder es) keys₀) (sym none);
      }

  module _ {keys : List ℕ} {count place : ℕ} (p : Passed holder table keys₀ keys count place) where
    pub lines_long : length (lines_of holder (before table place)) ≡ count
    lines_long = length-map (before table place) (line_of holder) ∙ p.counted

    -- the part of the keys from their start up to the count
    pub passed_part : take (count - 0) keys ≡ lines_of holder (before table place)
    passed_part =
        let n : count - 0 ≡ length (lines_of holder (before table place)) = omega (arith, lines_long) in
        ap (take (count - 0)) p.laid ∙ ap (λ n. take n (laid_over (lines_of holder (before table place)) keys₀)) n
        ∙ laid_part (lines_of holder (before table place)) keys₀

    module _ (few : count < most) where
      passed_next : before table (next_place table place) ≡ before table place ++ (entry_at table place ∷ [])
      passed_next = exact most (snoc p.chain) (omega (arith, length-append (before table place) (entry_at table place ∷ []), p.counted))

      passed_next_one : most ≤ length keys₀ → Passed holder table keys₀ (set keys count (line_of holder (entry_at table place))) (count + 1) (next_place table place)
      passed_next_one long =
          let old = lines_of holder (before table place) in
          let line = line_of holder (entry_at table place) in
          record {
            chain = subst (Chain table (next_place table place) 0) (sym passed_next) (snoc p.chain);
            counted = ap length passed_next ∙ length-append (before table place) (entry_at table place ∷ []) ∙ omega (arith, p.counted);
            laid =
                ap (λ i. set i count line) p.laid ∙ ap (λ n. set (laid_over old keys₀) n line) (sym lines_long)
                ∙ laid_more old keys₀ line (omega (arith, lines_long))
                ∙ ap (λ ls. laid_over ls keys₀) (sym (ap (lines_of holder) passed_next ∙ map-append (line_of holder) (before table place) (entry_at table place ∷ [])));
          }

      pub passed_more :
          {line next : ℕ} → most ≤ length keys₀ → line ≡ line_of holder (entry_at table place) → next ≡ next_place table place →
          Passed holder table keys₀ (set keys count line) (count + 1) next
      passed_more long l n = rw (l, n) (passed_next_one long)

-- no walk meets more records than it may
entries_few : (left : ℕ) (table : List ℕ) (stop place : ℕ) → length (entries left table stop place) ≤ left
unfolding entries
entries_few zero table stop place = omega arith
entries_few (suc left) table stop place =
    let rest = entries left table stop (next_place table place) in
    either (λ es. length es ≤ suc left) (ltb place stop) {x = entry_at table place ∷ rest} {y = []}
    (λ _. omega (arith, entries_few left table stop (next_place table place)))
    (λ _. omega arith)

passed_few : (holder : Holder) (table : List ℕ) (r : Result ℕ BadTable) → length (passed_lines holder table r) ≤ most
passed_few holder table r =
    omega (arith, length-map (before table (reach table r)) (line_of holder), entries_few most table (reach table r) 0)

-- so the lines of two tables have room in an array for both
pub judged_few : (farm house : List ℕ) → length (judged_lines farm house) ≤ most + most
judged_few farm house =
    either (λ ls. length ls ≤ most + most) (too_long farm) {x = []} (λ _. omega arith)
    (λ _. either (λ ls. length ls ≤ most + most) (too_long house) {x = []} {y = both_lines farm house} (λ _. omega arith)
    (λ _. omega (arith, length-append (passed_lines Farm farm (scan farm)) second, passed_few Farm farm (scan farm), second_few (scan farm))))
  where
    second : List ℕ
    second = behind_farm (scan farm) (passed_lines House house (scan house))

    second_few : (r : Result ℕ BadTable) → length (behind_farm r (passed_lines House house (scan house))) ≤ most
    second_few (Ok count) = passed_few House house (scan house)
    second_few (Err bad) = omega arith

-- and the array keeps its length
pub laid_long : (lines keys : List ℕ) → length lines ≤ length keys → length (laid_over lines keys) ≡ length keys
laid_long lines keys h = omega (arith, length-append lines (drop (length lines) keys), length-drop (length lines) keys)
