-- What is promised of a number that a text refers to is kept.
use mathlib.Core.Path.{◌≡◌, refl, ap, ap₂, sym, ◌∙◌}
use mathlib.Core.Bool.{Bool, true, false, cond, and-false}
use mathlib.Core.List.{List, [], ◌∷◌, ◌++◌}
use Prim.Native.Nat.{ℕ, suc, ◌+◌, ◌-◌, ◌≤◌, ◌<◌}
use native.Mathlib.Omega.{arith}
use borrow.Author.Tests.{lt-ltb}
use lib.ListN.{length, take, drop, get_or, length-append, get_or-eq_default}
use lib.Seq.{take-append_seam, get_or-append_seam}
use Rattle.paper.specs.Answers.{in_text, refusal}
use Rattle.paper.specs.Bytes.{run_of, name_byte}
use Rattle.paper.specs.Refusals.{too_big, code_over_255, greatest_code, refusal_number, refusal_of}
use Rattle.paper.specs.Traces.{Trace, ended, faults, gives, asks, spends, enters, bytes, answer, allowed}
use Rattle.paper.specs.declared.faults.Fault.TheVariants.{CodeOver255}
use Rattle.paper.specs.declared.refusals.Refusal.{Refusal}
use Rattle.paper.specs.declared.refusals.Refusal.TheVariants as Refusals
use Rattle.paper.proofs.Refused.{refused_back}
use Rattle.paper.proofs.Choice.{below, not_below, other}
use Rattle.reader.specs.Reading.{reading, refused, valued, no_limit}
use Rattle.variables.specs.Names.{Meaning, names_of}
use Rattle.variables.specs.Judgements.{good, judgement}
use Rattle.indexes.specs.Indexes.{Given, fits}
use Rattle.symbols.specs.Flags.{space_ends}
use Rattle.symbols.specs.Symbols.{symbol_at, active, referred, first_at, mode_of}
use Rattle.symbols.specs.declared.forms.Mode.TheVariants.{Plain}
use Rattle.symbols.specs.declared.forms.Symbol.TheVariants.{End, Reference}
use Rattle.gs.specs.Readings.{Expand, name_gives, content_gives, symbol_gives, symbols_from, whole_text, expands}
use Rattle.gs.specs.Translations.{Translation, reading_of, translated_answer}
use Rattle.gs.proofs.Answers.{good_answer, written_buffer, kept_buffer}
use Rattle.promises.specs.Allowed.{Translates}
use Rattle.promises.specs.Codes.{Met, Unread, Content, referring, Alone, InAMacro}
use Rattle.promises.proofs.TwoTablesKept.{macro_of_either}

-- what a content gives that the reader takes
module _ (names : List ℕ → Meaning) (expand : Expand) (content : List ℕ) (place number end : ℕ) (rest : Trace)
    (read : reading content true no_limit ≡ valued number end) where
  abbrev given : Trace
  given = content_gives names expand (reading content true no_limit) content place rest

  content_byte : number ≤ greatest_code → given ≡ gives number rest
  unfolding content_gives
  content_byte h = ap (λ r. content_gives names expand r content place rest) read ∙ sym (not_below greatest_code number _ _ h refl)

  content_over : greatest_code < number → given ≡ faults CodeOver255 place
  unfolding content_gives
  content_over h = ap (λ r. content_gives names expand r content place rest) read ∙ sym (below greatest_code number _ _ h refl)

-- no other refusal has the number 4
too_big_alone : (kept : Refusal) → refusal_number kept ≡ too_big → kept ≡ Refusals.TooBig
too_big_alone kept e = sym (refused_back kept) ∙ ap refusal_of e

-- and one that the reader refuses otherwise than by 4
content_named : (names : List ℕ → Meaning) (expand : Expand) (content : List ℕ) (place : ℕ) (rest : Trace) (kept : Refusal) (at : ℕ)
    → reading content true no_limit ≡ refused kept at → (kept ≡ Refusals.TooBig → ⊥)
    → content_gives names expand (reading content true no_limit) content place rest ≡ asks content (name_gives expand (names content) content place rest)
unfolding content_gives
content_named names expand content place rest kept at e n =
    ap (λ r. content_gives names expand r content place rest) e ∙ sym (other (refusal_number kept) too_big _ _ (λ e. n (too_big_alone kept e)) refl)

pub number_met : Met
unfolding symbol_gives symbols_from
number_met names expand text flags mode more at start end next number behind symbol read =
    let name = take (end - start) (drop start text) in
    let rest = symbols_from names more expand text flags mode in
    let here = ap (λ s. symbol_gives names expand text at s rest) symbol in (
      λ h. here ∙ content_byte names expand name at number behind (rest next) read h,
      λ h. here ∙ content_over names expand name at number behind (rest next) read h,
    )

pub number_unread : Unread
unfolding symbol_gives symbols_from content_gives
number_unread names expand text flags mode more at start end next kept place symbol read =
    let name = take (end - start) (drop start text) in
    let rest = symbols_from names more expand text flags mode in
    let here = ap (λ s. symbol_gives names expand text at s rest) symbol in (
      λ h. here ∙ ap (λ r. content_gives names expand r name at (rest next)) (read ∙ ap (λ k. refused k place) h),
      λ n. here ∙ content_named names expand name at (rest next) kept place read n,
    )

-- a run that takes in the whole of a list ends where the next one begins
run_seam : (test : ℕ → Bool) (xs ys : List ℕ) → run_of test xs ≡ length xs → run_of test ys ≡ 0 → run_of test (xs ++ ys) ≡ length xs
run_seam test [] ys e n = n
run_seam test (x ∷ xs) ys e n = go (test x) e (λ h. run_seam test xs ys h n)
  where
    go : (b : Bool) → cond b (suc (run_of test xs)) 0 ≡ suc (length xs) → (run_of test xs ≡ length xs → run_of test (xs ++ ys) ≡ length xs)
        → cond b (suc (run_of test (xs ++ ys))) 0 ≡ suc (length xs)
    go true h more = ap suc (more (omega arith))
    go false h more = absurd (omega arith)

-- a reference as a whole text: its one symbol, and the end directly behind
module _ (content : List ℕ) (flags : ℕ) (c : Content content) where
  abbrev text : List ℕ
  text = referring content

  abbrev size : ℕ
  size = length content

  closing : get_or text (1 + size) 0 ≡ 62
  closing = let next : 1 + size ≡ suc size = omega arith in ap (λ k. get_or text k 0) next ∙ get_or-append_seam (60 ∷ content) 62 [] 0

  named : run_of name_byte (content ++ (62 ∷ [])) ≡ size
  unfolding name_byte
  named = run_seam name_byte content (62 ∷ []) c.named refl

  the_symbol : symbol_at text flags Plain 0 ≡ Reference 1 (1 + size) (2 + size)
  unfolding symbol_at active referred
  the_symbol = rw (and-false (space_ends flags), named, lt-ltb 0 size c.some, closing) refl

  the_end : symbol_at text flags Plain (2 + size) ≡ End (record { 0 = 2 + size })
  unfolding symbol_at
  the_end = rw (get_or-eq_default text 0 {n = 2 + size} (omega (arith, length-append content (62 ∷ [])))) refl

  the_content : take (1 + size - 1) (drop 1 text) ≡ content
  the_content = let all : 1 + size - 1 ≡ size = omega arith in ap (λ k. take k (content ++ (62 ∷ []))) all ∙ take-append_seam content (62 ∷ [])

  whole : (names : List ℕ → Meaning) (expand : Expand)
      → whole_text names expand text flags ≡ content_gives names expand (reading content true no_limit) content 0 (ended (length text))
  unfolding whole_text symbols_from symbol_gives first_at mode_of
  whole names expand =
      let long : 2 + size ≡ length text = omega (arith, length-append content (62 ∷ [])) in
      let rest = symbols_from names (length text) expand text flags Plain in
      let behind : rest (2 + size) ≡ ended (length text) = ap (λ s. symbol_gives names expand text (2 + size) s (symbols_from names (length (content ++ (62 ∷ []))) expand text flags Plain)) the_end ∙ ap ended long in
      ap (λ s. symbol_gives names expand text 0 s rest) the_symbol
      ∙ ap (λ n. content_gives names expand (reading n true no_limit) n 0 (rest (2 + size))) the_content
      ∙ ap (content_gives names expand (reading content true no_limit) content 0) behind

-- an answer by a reading that is known
module _ (text farm house : List ℕ) (given : Given) (flags allowance : ℕ) (out after : List ℕ) (r : Translation)
    (judged : judgement text farm house ≡ good) (fit : fits given house ≡ true) (c : Translates text farm house given flags allowance out r after) where
  answered : translated_answer r ≡ answer (reading_of text farm house flags) (allowed allowance) (length out)
  answered = ap translated_answer c.answer ∙ good_answer text farm house given flags allowance (length out) judged fit

  kept : (number : ℕ) → translated_answer r ≡ refusal number in_text 0 (length out) → 0 < number → after ≡ out
  kept number e n =
      c.buffer ∙ kept_buffer text farm house given flags allowance out
      (λ z. absurd (omega (arith, sym (ap (λ a. a.number) (sym (ap translated_answer c.answer) ∙ e)) ∙ z)))

pub number_alone : Alone
number_alone content farm house given flags allowance number end out after r c read judged fit t =
    record { byte = byte; over = over }
  where
    text : List ℕ
    text = referring content

    names : List ℕ → Meaning
    names = names_of farm house

    reads : reading_of text farm house flags ≡ content_gives names (expands names 16) (reading content true no_limit) content 0 (ended (length text))
    reads = whole content flags c names (expands names 16)

    byte : number ≤ greatest_code → 1 ≤ length out
        → (translated_answer r ≡ record { number = 0; counted = in_text; place = length text; need = 1; free = length out - 1 }) × (after ≡ number ∷ drop 1 out)
    byte small room =
        let trace = reads ∙ content_byte names (expands names 16) content 0 number end (ended (length text)) read small in
        let told = answered text farm house given flags allowance out after r judged fit t
        ∙ ap (λ t. answer t (allowed allowance) (length out)) trace
        ∙ sym (not_below (length out) 1 _ _ room refl) in (
          told,
          t.buffer
              ∙ written_buffer text farm house given flags allowance out (ap (λ a. a.number) (sym (ap translated_answer t.answer) ∙ told))
              ∙ ap₂ (λ bs n. bs ++ drop n out) (ap bytes trace) (ap (λ a. a.need) (sym (ap translated_answer t.answer) ∙ told)),
        )

    over : greatest_code < number → (translated_answer r ≡ refusal code_over_255 in_text 0 (length out)) × (after ≡ out)
    over large =
        let told = answered text farm house given flags allowance out after r judged fit t
        ∙ ap (λ t. answer t (allowed allowance) (length out))
        (reads ∙ content_over names (expands names 16) content 0 number end (ended (length text)) read large) in
        (told, kept text farm house given flags allowance out after r judged fit t code_over_255 told (omega arith))

pub number_in_a_macro : InAMacro
number_in_a_macro name content farm house given flags allowance number end kept' place holder e out after r n asName small h value c read large judged fit some t =
    (told, kept text farm house given flags allowance out after r judged fit t code_over_255 told (omega arith))
  where
    text : List ℕ
    text = referring name

    names : List ℕ → Meaning
    names = names_of farm house

    inner : whole_text names (expands names 15) e.value 0 ≡ faults CodeOver255 0
    inner =
        ap (λ v. whole_text names (expands names 15) v 0) value
        ∙ whole content 0 c names (expands names 15)
        ∙ content_over names (expands names 15) content 0 number end (ended (length (referring content))) read large

    rest : Trace
    rest = ended (length text)

    reads : reading_of text farm house flags ≡ asks name (spends 0 (enters (record { name = name; place = 0 }) (faults CodeOver255 0) rest))
    reads =
        whole name flags n names (expands names 16) ∙ content_named names (expands names 16) name 0 rest kept' place asName small
        ∙ ap (asks name) (macro_of_either farm house name holder e 15 0 rest h ∙ ap (λ v. spends 0 (enters (record { name = name; place = 0 }) v rest)) inner)

    left : allowed allowance ≡ suc (allowed allowance - 1)
    left = omega arith

    told : translated_answer r ≡ refusal code_over_255 in_text 0 (length out)
    told =
        answered text farm house given flags allowance out after r judged fit t
        ∙ ap (λ t. answer t (allowed allowance) (length out)) reads
        ∙ ap (λ l. answer (asks name (spends 0 (enters (record { name = name; place = 0 }) (faults CodeOver255 0) rest))) l (length out)) left
