-- What is written reads back: the digits of a number, of any base and width, and the strings of the calls.
use mathlib.Core.Path.{◌≡◌, refl, ap, ap₂, sym, subst, ◌∙◌}
use mathlib.Core.Bool.{Bool, false, and-false}
use mathlib.Core.List.{List, [], ◌∷◌, ◌++◌}
use Prim.Native.Nat.{ℕ, zero, suc, ◌+◌, ◌*◌, ◌/◌, ◌%◌, ◌^◌, ◌≤◌, ◌<◌}
use native.Mathlib.Nat.{mod-lt, mod-eq_of_lt, pow-zero, pow-succ', mul_assoc, add-mul, add-zero}
use native.Mathlib.Decide.{dec_lt}
use native.Mathlib.Omega.{arith}
use lib.Arith.{mod-mul}
use lib.Dec.{ltb}
use lib.ListN.{length, get_or, drop}
use lib.Seq.{get_or-append-add, get_or-drop}
use borrow.Author.Tests.{lt-ltb, le-ltb, le-leb, lt-leb, ne_eqb}
use Rattle.paper.specs.Refusals.{longest}
use Rattle.paper.specs.Bytes.{space, spaces}
use Rattle.forms.specs.Digits.{glyph, digits}
use Rattle.forms.specs.Strings.{radix, Form, used, count, string}
use Rattle.forms.specs.declared.forms.Base.{Base}
use Rattle.forms.specs.declared.forms.Base.TheVariants.{Two, Ten, Sixteen}
use Rattle.paper.proofs.Choice.{skip, other, not_below}
use Rattle.paper.proofs.Runs.{run_none}
use Rattle.forms.proofs.Laws.{below_power}
use Rattle.numbers.proofs.Laws.{digits_length}
use Rattle.numbers.proofs.Bounds.{used_below, span_word, count_holds, count_from}
use Rattle.reader.specs.Reading.{digit, run, worth, goes_on, judged, no_limit, based, in_base, marked, numbered, reading, valued}
use Rattle.promises.specs.Leads.{lead}

-- the digits' own values
values : ℕ → ℕ → ℕ → List ℕ
values b zero n = []
values b (suc k) n = (n / b ^ k % b) ∷ values b k n

values_length : (b k n : ℕ) → length (values b k n) ≡ k
unfolding values
values_length b zero n = refl
values_length b (suc k) n = ap suc (values_length b k n)

digit_glyph : (d : ℕ) → d < 16 → digit (glyph d) ≡ d
unfolding digit
digit_glyph d h = go (dec_lt d 10)
  where
    go : Dec (d < 10) → digit (glyph d) ≡ d
    go (yes p) = rw (lt-ltb d 10 p, le-leb 48 (48 + d) (omega arith), le-leb (48 + d) 57 (omega arith)) (omega arith)
    go (no p) =
        rw (
          le-ltb d 10 (omega arith),
          le-leb 48 (55 + d) (omega arith),
          lt-leb (55 + d) 57 (omega arith),
          le-leb 65 (55 + d) (omega arith),
          le-leb (55 + d) 90 (omega arith),
        )
        (omega arith)

-- a byte up to 32 is no digit
no_digit_low : (c : ℕ) → c ≤ 32 → digit c ≡ 36
unfolding digit
no_digit_low c h = rw (lt-leb 48 c (omega arith), lt-leb 65 c (omega arith), lt-leb 97 c (omega arith))

stops : (b : ℕ) (tail : List ℕ) → b ≤ 16 → get_or tail 0 0 ≤ 32 → run b tail ≡ []
stops b [] small low = refl
stops b (x ∷ xs) small low = rw (no_digit_low x low, le-ltb 36 b (omega arith))

module _ (b : ℕ) (two : 2 ≤ b) (small : b ≤ 16) where
  positive : 0 < b
  positive = omega arith

  pow_positive : (k : ℕ) → 0 < b ^ k
  pow_positive k = omega (arith, below_power b k two)

  run_back : (k n : ℕ) (tail : List ℕ) → get_or tail 0 0 ≤ 32 → run b (digits b false k n ++ tail) ≡ values b k n
  unfolding digits values
  run_back zero n tail low = stops b tail small low
  run_back (suc k) n tail low =
      let d = n / b ^ k % b in
      let below : d < b = mod-lt (n / b ^ k) positive in
      rw (digit_glyph d (omega arith), lt-ltb d b below, run_back k n tail low)

  worth_back : (k n before : ℕ) → worth b before (values b k n) ≡ before * b ^ k + n % b ^ k
  unfolding values
  worth_back zero n before = rw pow-zero (omega arith)
  worth_back (suc k) n before =
      let p = b ^ k in
      let d = n / p % b in
      let last : n % (b * p) ≡ d * p + n % p = mod-mul n positive (pow_positive k) in
      worth_back k n (before * b + d)
      ∙ rw pow-succ' (omega (arith, last, add-mul (before * b) d p, mul_assoc before b p))

-- a number that is read without a fault
judged_value : (text : List ℕ) (whole : Bool) (limit start first end value : ℕ)
    → first < end → value ≤ 4294967295 → get_or text end 0 ≤ 32 → value ≤ limit
    → judged text whole limit start first end value ≡ valued value end
unfolding judged
judged_value text whole limit start first end value more word low within =
    let ended : goes_on text whole end ≡ false = rw (le-ltb 32 (get_or text end 0) low) (and-false whole) in
    sym
    (other end first _ _ (omega arith)
    (not_below 4294967295 value _ _ (omega arith) (skip (goes_on text whole end) _ _ ended (not_below limit value _ _ within refl))))

-- digits of a base from a place of a text on, with something behind them that is no digit
module _ (b k n : ℕ) (tail text : List ℕ) (first : ℕ) (two : 2 ≤ b) (small : b ≤ 16) (one : 1 ≤ k) (fits : n < b ^ k)
    (low : get_or tail 0 0 ≤ 32) (here : drop first text ≡ digits b false k n ++ tail) where
  run_is : run b (drop first text) ≡ values b k n
  run_is = ap (run b) here ∙ run_back b two small k n tail low

  long : k ≡ length (digits b false k n) + 0
  long = sym (add-zero _ ∙ digits_length b false k n)

  behind_low : get_or text (first + k) 0 ≤ 32
  behind_low =
      subst (λ c. c ≤ 32)
      (sym
      (sym (get_or-drop first text k 0) ∙ ap (λ l. get_or l k 0) here
      ∙ ap (λ m. get_or (digits b false k n ++ tail) m 0) long
      ∙ get_or-append-add (digits b false k n) tail 0 0))
      low

  based_back : (whole : Bool) (limit start : ℕ) → n ≤ 4294967295 → n ≤ limit
      → based text whole limit start first b ≡ valued n (first + k)
  based_back whole limit start word within =
      let worth_is : worth b 0 (values b k n) ≡ n = worth_back b two small k n 0 ∙ omega (arith, mod-eq_of_lt fits) in
      ap₂ (judged text whole limit start first) (ap (λ ds. first + length ds) run_is ∙ ap (λ m. first + m) (values_length b k n)) (ap (worth b 0) run_is ∙ worth_is)
      ∙ judged_value text whole limit start first (first + k) n (omega arith) word behind_low within

-- a text that starts with a decimal digit, and has no "_" behind its decimal digits, is a decimal number
decimal_start : (text : List ℕ) (whole : Bool) (limit : ℕ) → 48 ≤ get_or text 0 0 → length text ≤ longest
    → get_or text (0 + length (run 10 (drop 0 text))) 0 ≤ 32 → reading text whole limit ≡ based text whole limit 0 0 10
unfolding reading numbered
decimal_start text whole limit digit-first short low =
    let start : spaces text ≡ 0 = run_none space text 0 (ne_eqb (get_or text 0 0) 32 (λ e. omega arith)) in
    let end = 0 + length (run 10 (drop 0 text)) in
    let unmarked : marked text 0 end ≡ false = rw (ne_eqb (get_or text end 0) 95 (λ e. omega arith)) (and-false (ltb 0 end)) in
    let plain : based text whole limit 0 0 10 ≡ numbered text whole limit 0 =
    other (get_or text 0 0) 38 _ _ (λ e. omega arith) (skip (marked text 0 end) _ _ unmarked refl) in
    sym (not_below longest (length text) _ _ short (plain ∙ ap (numbered text whole limit) (sym start)))

first_digit : (k n : ℕ) (tail : List ℕ) → 1 ≤ k → 48 ≤ get_or (digits 10 false k n ++ tail) 0 0
unfolding digits
first_digit zero n tail one = absurd (omega arith)
first_digit (suc k) n tail one = rw (lt-ltb (n / 10 ^ k % 10) 10 (mod-lt (n / 10 ^ k) (omega arith))) (omega arith)

-- digits behind what tells their base, at the start of a text
module _ (k n : ℕ) (tail : List ℕ) (whole : Bool) (one : 1 ≤ k) (word : n ≤ 4294967295) (low : get_or tail 0 0 ≤ 32) where
  abbrev Back : Base → Type 0
  Back base =
      n < radix base ^ k → length (lead base ++ (digits (radix base) false k n ++ tail)) ≤ longest
      → reading (lead base ++ (digits (radix base) false k n ++ tail)) whole no_limit ≡ valued n (length (lead base) + k)

  hex_back : Back Sixteen
  unfolding reading numbered
  hex_back fits short =
      rw (le-ltb longest _ short)
      (based_back 16 k n tail (38 ∷ (digits 16 false k n ++ tail)) 1 (omega arith) (omega arith) one fits low refl whole 4294967295 0 word word)

  binary_back : Back Two
  unfolding reading numbered in_base digit
  binary_back fits short =
      rw (le-ltb longest _ short)
      (based_back 2 k n tail (50 ∷ 95 ∷ (digits 2 false k n ++ tail)) 2 (omega arith) (omega arith) one fits low refl whole 4294967295 0 word word)

  decimal_back : Back Ten
  decimal_back fits short =
      let text = digits 10 false k n ++ tail in
      let all : length (run 10 (drop 0 text)) ≡ k =
      ap length (run_is 10 k n tail text 0 (omega arith) (omega arith) one fits low refl) ∙ values_length 10 k n in
      let end : get_or text (0 + length (run 10 (drop 0 text))) 0 ≤ 32 =
      subst (λ m. get_or text (0 + m) 0 ≤ 32) (sym all) (behind_low 10 k n tail text 0 (omega arith) (omega arith) one fits low refl) in
      decimal_start text whole 4294967295 (first_digit k n tail one) short end
      ∙ based_back 10 k n tail text 0 (omega arith) (omega arith) one fits low refl whole 4294967295 0 word word

  base_back : (base : Base) → Back base
  base_back Two = binary_back
  base_back Ten = decimal_back
  base_back Sixteen = hex_back

-- an unsigned string without spaces is its digits
plain_string : (form : Form) (value : ℕ) → form.signed ≡ false → form.spaced ≡ false
    → string form value ≡ digits (radix form.base) false (count form (used form value)) (used form value)
unfolding string
plain_string form value unsigned unspaced = rw (unsigned, unspaced)

-- DEMAND 2, reading back: what a form writes, without a sign or spaces, is read as the bits that it uses, up to its end, whatever
-- stands behind it that a whole number may stand before
pub read_back : (form : Form) → form.signed ≡ false → form.spaced ≡ false
    → (value : ℕ) (tail : List ℕ) (whole : Bool) → get_or tail 0 0 ≤ 32
    → length (lead form.base ++ (string form value ++ tail)) ≤ longest
    → reading (lead form.base ++ (string form value ++ tail)) whole no_limit
    ≡ valued (used form value) (length (lead form.base) + length (string form value))
read_back form unsigned unspaced value tail whole low =
    let n = used form value in
    let b = radix form.base in
    let word : n ≤ 4294967295 = omega (arith, used_below form value, span_word form) in
    rw (plain_string form value unsigned unspaced, digits_length b false (count form n) n)
    (base_back (count form n) n tail whole (count_from form n) word low form.base (count_holds form n (used_below form value)))
