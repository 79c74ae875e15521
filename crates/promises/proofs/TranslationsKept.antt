-- What `translate` promises is kept: demand 3 is that of every trace, at the trace of the reading.
use mathlib.Core.Path.{◌≡◌, refl, ap, ap₂, sym, subst, subst₂, ◌∙◌}
use mathlib.Core.Bool.{Bool, true, false, false≢true}
use mathlib.Core.List.Memᴰ
use mathlib.Core.List.{List, ◌++◌}
use mathlib.Core.Logic.{◌↔◌}
use Prim.Native.Nat.{ℕ, ◌+◌, ◌-◌, ◌≤◌, ◌<◌}
use native.Mathlib.Decide.{dec_lt}
use native.Mathlib.Omega.{arith}
use lib.ListN.{length, take, drop}
use lib.Seq.{take-append_seam, drop-append_seam}
use Rattle.std.specs.Prelude.{Ok, Err}
use Rattle.paper.specs.Answers.{in_text, in_farm, in_house, in_index, Answer, refusal, Grown, GrownWhole}
use Rattle.paper.specs.Refusals as Refusals
use Rattle.paper.specs.Refusals.{no_room, allowance_spent, over_length, bad_index, longest}
use Rattle.paper.specs.Traces.{Trace, bytes, answer, Succeeds, look_ups, allowed}
use Rattle.paper.proofs.Choice.{clash}
use Rattle.paper.proofs.Refused.{refused_above}
use Rattle.paper.proofs.DemandThree.{more_of_both, need_stays, second_ask, no_room_exactly, no_room_need, spent_exactly, refused_answer, accepted_need, accepted_exactly, not_over_length}
use Rattle.variables.specs.Judgements.{Judgement, good, long_text, bad_table, judgement, judged_by}
use Rattle.variables.proofs.Bounds.{bad_number, Within, judged_within}
use Rattle.std.specs.Prelude.{Result}
use Rattle.paper.specs.declared.refusals.BadTableOf.{BadTableOf}
use Rattle.variables.proofs.Judging.{over, within, refused, Case, long_farm, long_house, bad_farm, bad_house, both_good, judged_case}
use Rattle.indexes.specs.Indexes.{Given, fits}
use Rattle.gs.specs.Translations.{Translation, reading_of, translated_over, translated, translated_answer, left_by, out_after}
use Rattle.gs.specs.declared.NotTranslated.TheVariants as Not
use Rattle.gs.proofs.Answers.{good_answer, long_text_answer, bad_index_answer, bad_table_answer, written_buffer, kept_buffer}
use Rattle.gs.proofs.Limits.{translated_listed}
use Rattle.promises.proofs.OtherNumbers.{not_by_reading, not_by_check}
use Rattle.promises.specs.Accepted.{is_translated}
use Rattle.promises.specs.Allowed.{Translates}
use Rattle.promises.specs.Translations.{OneAnswer, Accepts, Refusals, Refused, Kept, Bytes, judged_answer, ByReading, Accepted, OverLength, BadIndex, Through, Larger, NoRoom, Need, Spent, SecondAsk}

pub one_answer : OneAnswer
one_answer text farm house given flags allowance out after after' r r' c c' = (c.answer ∙ sym c'.answer, c.buffer ∙ sym c'.buffer)

-- of every trace, and of every judgement
module _ (t : Trace) where
  -- the look-ups that a larger allowance adds, where more than 1,024 counts as 1,024
  added : (allowance allowance' : ℕ) → allowance ≤ allowance' → allowed allowance + (allowed allowance' - allowed allowance) ≡ allowed allowance'
  added allowance allowance' up = omega arith

  judged_refused : (d : Judgement) (f : Bool) (allowance room : ℕ) → ((judged_answer d f t allowance room).number ≡ 0 → ⊥)
      → ((judged_answer d f t allowance room).free ≡ room)
      × (((judged_answer d f t allowance room).number ≡ no_room → ⊥) → (judged_answer d f t allowance room).need ≡ 0)
  judged_refused good false allowance room = λ n. (refl, λ m. refl)
  judged_refused good true allowance room = refused_answer t (allowed allowance) room
  judged_refused long_text f allowance room = λ n. (refl, λ m. refl)
  judged_refused (bad_table why holder place) f allowance room = λ n. (refl, λ m. refl)

  judged_grows : (d : Judgement) (f : Bool) (allowance allowance' room more : ℕ) → allowance ≤ allowance'
      → ((judged_answer d f t allowance room).number ≡ no_room → ⊥) → ((judged_answer d f t allowance room).number ≡ allowance_spent → ⊥)
      → Grown more (judged_answer d f t allowance room) (judged_answer d f t allowance' (room + more))
  judged_grows good false allowance allowance' room more up n m =
      record { number = refl; counted = refl; place = refl; need = refl; free = refl }
  judged_grows good true allowance allowance' room more up n m =
      subst (λ l. Grown more (answer t (allowed allowance) room) (answer t l (room + more))) (added allowance allowance' up)
      (more_of_both t (allowed allowance) room (allowed allowance' - allowed allowance) more n m)
  judged_grows long_text f allowance allowance' room more up n m =
      record { number = refl; counted = refl; place = refl; need = refl; free = refl }
  judged_grows (bad_table why holder place) f allowance allowance' room more up n m =
      record { number = refl; counted = refl; place = refl; need = refl; free = refl }

-- the same bytes in two buffers, by what an answer says of them
module _ (given after buf buf' after' : List ℕ) (more : ℕ) (a a' : Answer) (grown : Grown more a a') where
  accepted_whole : a.need ≡ length given → after ≡ given ++ drop (length given) buf → after' ≡ given ++ drop (length given) buf'
      → GrownWhole after buf' after' more a a'
  accepted_whole need b b' =
      record {
        answer = grown;
        written =
            ap₂ take need b' ∙ take-append_seam given (drop (length given) buf')
            ∙ sym (ap₂ take need b ∙ take-append_seam given (drop (length given) buf));
        behind = ap₂ drop need b' ∙ drop-append_seam given (drop (length given) buf') ∙ ap (λ n. drop n buf') (sym need);
      }

  refused_whole : a.need ≡ 0 → after' ≡ buf' → GrownWhole after buf' after' more a a'
  refused_whole need b' =
      record {
        answer = grown;
        written = ap (λ n. take n after') need ∙ sym (ap (λ n. take n after) need);
        behind = ap (drop a.need) b';
      }

-- two findings of one text and table are the same
not_good : (text farm house : List ℕ) (d : Judgement) → judgement text farm house ≡ d → (d ≡ good → ⊥) → judgement text farm house ≡ good → ⊥
not_good text farm house d e n g = n (sym e ∙ g)

module _ (text farm house : List ℕ) (given : Given) (flags allowance room : ℕ) where
  abbrev reading : Trace
  reading = reading_of text farm house flags

  judged_as : (d : Judgement) (f : Bool) → judgement text farm house ≡ d → fits given house ≡ f
      → translated_answer (translated text farm house given flags allowance room) ≡ judged_answer d f reading allowance room
  judged_as good true e q = good_answer text farm house given flags allowance room e q
  judged_as good false e q = bad_index_answer text farm house given flags allowance room e q
  judged_as long_text f e q = long_text_answer text farm house given flags allowance room e
  judged_as (bad_table why holder place) f e q = bad_table_answer text farm house given flags allowance room why holder place e

  abbrev judged : Answer
  judged = judged_answer (judgement text farm house) (fits given house) reading allowance room

  judged_need : judged.number ≡ 0 → judged.need ≡ length (bytes reading)
  judged_need = go (judgement text farm house) (fits given house) refl
    where
      go : (d : Judgement) (f : Bool) → judgement text farm house ≡ d → (judged_answer d f reading allowance room).number ≡ 0
          → (judged_answer d f reading allowance room).need ≡ length (bytes reading)
      go good true e = accepted_need reading (allowed allowance) room
      go good false e = λ z. absurd (omega arith)
      go long_text f e = λ z. absurd (omega arith)
      go (bad_table why holder place) f e = λ z. absurd (omega (arith, bad_number farm house why holder place (refused text farm house why holder place e).1))

  judged_no_room : (judged.number ≡ no_room)
      ↔ ((judgement text farm house ≡ good) × (fits given house ≡ true) × (look_ups reading ≤ allowed allowance) × Succeeds reading × (room < length (bytes reading)))
  judged_no_room = go (judgement text farm house) (fits given house) refl refl
    where
      go : (d : Judgement) (f : Bool) → judgement text farm house ≡ d → fits given house ≡ f
          → ((judged_answer d f reading allowance room).number ≡ no_room)
          ↔ ((judgement text farm house ≡ good) × (fits given house ≡ true) × (look_ups reading ≤ allowed allowance) × Succeeds reading × (room < length (bytes reading)))
      go good true e q =
          let exactly = no_room_exactly reading (allowed allowance) room in
          (λ h. let s = exactly.0 h in (e, q, s.0, s.1, s.2), λ h. exactly.1 (h.2, h.3, h.4))
      go good false e q = (λ h. absurd (omega arith), λ h. absurd (false≢true (sym q ∙ h.1)))
      go long_text f e q = (λ h. absurd (omega arith), λ h. absurd (not_good text farm house long_text e (λ q. clash (cc)) h.0))
      go (bad_table why holder place) f e q = (
        λ h. absurd (omega (arith, bad_number farm house why holder place (refused text farm house why holder place e).1)),
        λ h. absurd (not_good text farm house (bad_table why holder place) e (λ q. clash (cc)) h.0),
      )

  judged_accepted : (judged.number ≡ 0)
      ↔ ((judgement text farm house ≡ good) × (fits given house ≡ true) × (look_ups reading ≤ allowed allowance) × Succeeds reading × (length (bytes reading) ≤ room))
  judged_accepted = go (judgement text farm house) (fits given house) refl refl
    where
      go : (d : Judgement) (f : Bool) → judgement text farm house ≡ d → fits given house ≡ f
          → ((judged_answer d f reading allowance room).number ≡ 0)
          ↔ ((judgement text farm house ≡ good) × (fits given house ≡ true) × (look_ups reading ≤ allowed allowance) × Succeeds reading × (length (bytes reading) ≤ room))
      go good true e q =
          let exactly = accepted_exactly reading (allowed allowance) room in
          (λ h. let s = exactly.0 h in (e, q, s.0, s.1, s.2), λ h. exactly.1 (h.2, h.3, h.4))
      go good false e q = (λ h. absurd (omega arith), λ h. absurd (false≢true (sym q ∙ h.1)))
      go long_text f e q = (λ h. absurd (omega arith), λ h. absurd (not_good text farm house long_text e (λ q. clash (cc)) h.0))
      go (bad_table why holder place) f e q = (
        λ h. absurd (omega (arith, bad_number farm house why holder place (refused text farm house why holder place e).1)),
        λ h. absurd (not_good text farm house (bad_table why holder place) e (λ q. clash (cc)) h.0),
      )

  -- 18 of the text, of the farm's table and of the house's
  abbrev OverIn : Answer → Type 0
  OverIn a =
      (((a.number ≡ over_length) × (a.counted ≡ in_text)) ↔ (longest < length text))
      × (((a.number ≡ over_length) × (a.counted ≡ in_farm)) ↔ ((length text ≤ longest) × (longest < length farm)))
      × (((a.number ≡ over_length) × (a.counted ≡ in_house)) ↔ ((length text ≤ longest) × (length farm ≤ longest) × (longest < length house)))

  -- an answer of another number, where nothing is too long
  not_over : length text ≤ longest → length farm ≤ longest → length house ≤ longest → (a : Answer) → (a.number ≡ over_length → ⊥) → OverIn a
  not_over t f k a n = (
    (λ h. absurd (n h.0), λ h. absurd (omega arith)),
    (λ h. absurd (n h.0), λ h. absurd (omega (arith, h.1))),
    (λ h. absurd (n h.0), λ h. absurd (omega (arith, h.2))),
  )

  abbrev Over : Judgement → Bool → Type 0
  Over d f = OverIn (judged_answer d f reading allowance room)

  text_over : longest < length text → Over long_text (fits given house)
  text_over l = (
    (λ _. l, λ _. (refl, refl)),
    (λ h. absurd (omega (arith, h.1)), λ h. absurd (omega (arith, h.0))),
    (λ h. absurd (omega (arith, h.1)), λ h. absurd (omega (arith, h.0))),
  )

  tables_over : length text ≤ longest → (f : Bool) → {r : Result ℕ BadTableOf} → Case farm house r → Over (judged_by r) f
  tables_over t fit (long_farm l) = (
    (λ h. absurd (omega (arith, h.1)), λ h. absurd (omega arith)),
    (λ _. (t, l), λ _. (refl, refl)),
    (λ h. absurd (omega (arith, h.1)), λ h. absurd (omega (arith, h.1))),
  )
  tables_over t fit (long_house f l) = (
    (λ h. absurd (omega (arith, h.1)), λ h. absurd (omega arith)),
    (λ h. absurd (omega (arith, h.1)), λ h. absurd (omega (arith, h.1))),
    (λ _. (t, f, l), λ _. (refl, refl)),
  )
  tables_over t fit (bad_farm f k p b) =
      not_over t f k (refusal Refusals.bad_table in_farm p room) (λ z. omega arith)
  tables_over t fit (bad_house f k o g p b) =
      not_over t f k (refusal Refusals.bad_table in_house p room) (λ z. omega arith)
  tables_over t false (both_good f k o g n b) = not_over t f k (refusal bad_index in_index 0 room) (λ z. omega arith)
  tables_over t true (both_good f k o g n b) =
      not_over t f k (answer reading (allowed allowance) room) (not_over_length reading (allowed allowance) room)

  judged_over : OverIn judged
  judged_over = go (dec_lt longest (length text))
    where
      go : Dec (longest < length text) → OverIn judged
      go (yes l) = subst (λ d. Over d (fits given house)) (sym (over text farm house l)) (text_over l)
      go (no n) =
          let t : length text ≤ longest = omega arith in
          subst (λ d. Over d (fits given house)) (sym (within text farm house t)) (tables_over t (fits given house) (judged_case farm house))

  judged_spent : (judged.number ≡ allowance_spent) ↔ ((judgement text farm house ≡ good) × (fits given house ≡ true) × (allowed allowance < look_ups reading))
  judged_spent = go (judgement text farm house) (fits given house) refl refl
    where
      go : (d : Judgement) (f : Bool) → judgement text farm house ≡ d → fits given house ≡ f
          → ((judged_answer d f reading allowance room).number ≡ allowance_spent) ↔ ((judgement text farm house ≡ good) × (fits given house ≡ true) × (allowed allowance < look_ups reading))
      go good true e q =
          let exactly = spent_exactly reading (allowed allowance) room in
          (λ h. (e, q, exactly.0 h), λ h. exactly.1 h.2)
      go good false e q = (λ h. absurd (omega arith), λ h. absurd (false≢true (sym q ∙ h.1)))
      go long_text f e q = (λ h. absurd (omega arith), λ h. absurd (not_good text farm house long_text e (λ q. clash (cc)) h.0))
      go (bad_table why holder place) f e q = (
        λ h. absurd (omega (arith, bad_number farm house why holder place (refused text farm house why holder place e).1)),
        λ h. absurd (not_good text farm house (bad_table why holder place) e (λ q. clash (cc)) h.0),
      )

-- an answer as the code has it is accepted exactly where its number is 0
accepted_as : (r : Translation) → ((translated_answer r).number ≡ 0) ↔ (is_translated r ≡ true)
accepted_as (Ok t) = (λ _. refl, λ _. refl)
accepted_as (Err (Not.Refused why at need free)) = (λ z. absurd (refused_above why z), λ z. clash (cc))
accepted_as (Err (Not.BadTable bad free)) = (λ z. absurd (refused_above bad.why z), λ z. clash (cc))
accepted_as (Err (Not.BadIndex free)) = (λ z. absurd (omega arith), λ z. clash (cc))

pub accepts : Accepts
accepts text farm house given flags allowance out after r c = accepted_as r

pub refusals : Refusals
refusals text farm house given flags allowance out after r c =
    Memᴰ.cast (ap (λ r. (translated_answer r).number) c.answer) (translated_listed text farm house flags allowance (length out) given)

pub by_reading : ByReading
by_reading text farm house given flags allowance out after r c =
    ap translated_answer c.answer ∙ judged_as text farm house given flags allowance (length out) (judgement text farm house) (fits given house) refl refl

number_by : {a b : Answer} → a ≡ b → a.number ≡ b.number
number_by e = ap (λ (a : Answer). a.number) e

pub kept : Kept
kept text farm house given flags allowance out after r c n =
    c.buffer ∙ kept_buffer text farm house given flags allowance out (λ e. n (number_by (ap translated_answer c.answer) ∙ e))

pub refused_free : Refused
refused_free text farm house given flags allowance out after r c =
    subst (λ (a : Answer). (a.number ≡ 0 → ⊥) → (a.free ≡ length out) × ((a.number ≡ no_room → ⊥) → a.need ≡ 0))
    (sym (by_reading text farm house given flags allowance out after r c))
    (judged_refused (reading_of text farm house flags) (judgement text farm house) (fits given house) allowance (length out))

pub bytes_left : Bytes
bytes_left text farm house given flags allowance out after r c e =
    let read = bytes (reading_of text farm house flags) in
    let same = by_reading text farm house given flags allowance out after r c in
    let need : (translated_answer r).need ≡ length read =
    ap (λ (a : Answer). a.need) same ∙ judged_need text farm house given flags allowance (length out) (sym (number_by same) ∙ e) in
    let defined = ap translated_answer c.answer in (
      c.buffer ∙ written_buffer text farm house given flags allowance out (sym (number_by defined) ∙ e)
          ∙ ap (λ n. read ++ drop n out) (sym (ap (λ (a : Answer). a.need) defined) ∙ need),
      need,
    )

pub larger : Larger
larger text farm house given flags allowance allowance' more out after out' after' r r' up longer c c' n m = go (dec_lt 0 (translated_answer r).number)
  where
    same : translated_answer r ≡ judged_answer (judgement text farm house) (fits given house) (reading_of text farm house flags) allowance (length out)
    same = by_reading text farm house given flags allowance out after r c

    same' : translated_answer r' ≡ judged_answer (judgement text farm house) (fits given house) (reading_of text farm house flags) allowance' (length out + more)
    same' =
        by_reading text farm house given flags allowance' out' after' r' c'
        ∙ ap (judged_answer (judgement text farm house) (fits given house) (reading_of text farm house flags) allowance') longer

    grown : Grown more (translated_answer r) (translated_answer r')
    grown =
        subst₂ (Grown more) (sym same) (sym same')
        (judged_grows (reading_of text farm house flags) (judgement text farm house) (fits given house) allowance allowance' (length out) more up
        (λ h. n (number_by same ∙ h)) (λ h. m (number_by same ∙ h)))

    go : Dec (0 < (translated_answer r).number) → GrownWhole after out' after' more (translated_answer r) (translated_answer r')
    go (no p) =
        let z : (translated_answer r).number ≡ 0 = omega arith in
        let b = bytes_left text farm house given flags allowance out after r c z in
        let b' = bytes_left text farm house given flags allowance' out' after' r' c' (grown.number ∙ z) in
        accepted_whole (bytes (reading_of text farm house flags)) after out out' after' more (translated_answer r) (translated_answer r') grown b.1 b.0 b'.0
    go (yes p) =
        let z : (translated_answer r).number ≡ 0 → ⊥ = λ e. omega arith in
        refused_whole (bytes (reading_of text farm house flags)) after out out' after' more (translated_answer r) (translated_answer r') grown
        ((refused_free text farm house given flags allowance out after r c z).1 n)
        (kept text farm house given flags allowance' out' after' r' c' (λ e. z (sym grown.number ∙ e)))

pub accepted : Accepted
accepted text farm house given flags allowance out after r c =
    let same = number_by (by_reading text farm house given flags allowance out after r c) in
    let exactly = judged_accepted text farm house given flags allowance (length out) in
    (λ h. exactly.0 (sym same ∙ h), λ h. same ∙ exactly.1 h)

pub over_length_comes : OverLength
over_length_comes text farm house given flags allowance out after r c =
    subst (OverIn text farm house given flags allowance (length out)) (sym (by_reading text farm house given flags allowance out after r c))
    (judged_over text farm house given flags allowance (length out))

pub no_room_comes : NoRoom
no_room_comes text farm house given flags allowance out after r c =
    let same = number_by (by_reading text farm house given flags allowance out after r c) in
    let exactly = judged_no_room text farm house given flags allowance (length out) in
    (λ h. exactly.0 (sym same ∙ h), λ h. same ∙ exactly.1 h)

pub spent_comes : Spent
spent_comes text farm house given flags allowance out after r c =
    let same = number_by (by_reading text farm house given flags allowance out after r c) in
    let exactly = judged_spent text farm house given flags allowance (length out) in
    (λ h. exactly.0 (sym same ∙ h), λ h. same ∙ exactly.1 h)

-- 20 comes where all else that is found before the reading is good
module _ (text farm house : List ℕ) (given : Given) (flags allowance room : ℕ) where
  judged_misfit : ((judged text farm house given flags allowance room).number ≡ bad_index)
      ↔ ((judgement text farm house ≡ good) × (fits given house ≡ false))
  judged_misfit = go (judgement text farm house) (fits given house) refl refl
    where
      go : (d : Judgement) (f : Bool) → judgement text farm house ≡ d → fits given house ≡ f
          → ((judged_answer d f (reading_of text farm house flags) allowance room).number ≡ bad_index)
          ↔ ((judgement text farm house ≡ good) × (fits given house ≡ false))
      go good false e q = (λ _. (e, q), λ _. refl)
      go good true e q = (
        λ h. absurd (not_by_reading (reading_of text farm house flags) (allowed allowance) room h),
        λ h. absurd (false≢true (sym h.1 ∙ q)),
      )
      go long_text f e q = (λ h. absurd (omega arith), λ h. absurd (not_good text farm house long_text e (λ q. clash (cc)) h.0))
      go (bad_table why holder place) f e q = (
        λ h. absurd (not_by_check (subst Within (refused text farm house why holder place e).1 (judged_within farm house)).2 h),
        λ h. absurd (not_good text farm house (bad_table why holder place) e (λ q. clash (cc)) h.0),
      )

pub misfits : BadIndex
misfits text farm house given flags allowance out after r c =
    let same = number_by (by_reading text farm house given flags allowance out after r c) in
    let exactly = judged_misfit text farm house given flags allowance (length out) in
    (λ h. exactly.0 (sym same ∙ h), λ h. same ∙ exactly.1 h)

pub through : Through
unfolding translated out_after
through text farm house given flags allowance out after after' r r' fit c c' =
    let answers : r ≡ r' = c.answer ∙ ap (λ f. translated_over (judgement text farm house) f (reading_of text farm house flags) allowance (length out)) fit ∙ sym c'.answer in
    (answers, c.buffer ∙ ap (λ r. left_by r (bytes (reading_of text farm house flags)) out) (sym c.answer ∙ answers ∙ c'.answer) ∙ sym c'.buffer)

-- No room over a text and a table that are read
module _ (text farm house : List ℕ) (given : Given) (flags allowance : ℕ) (out after : List ℕ) (r : Translation) (c : Translates text farm house given flags allowance out r after)
    (e : (translated_answer r).number ≡ no_room) where
  is_read : judgement text farm house ≡ good
  is_read = ((no_room_comes text farm house given flags allowance out after r c).0 e).0

  is_fit : fits given house ≡ true
  is_fit = ((no_room_comes text farm house given flags allowance out after r c).0 e).1

  read_as : (allowance' : ℕ) (out' after' : List ℕ) (r' : Translation) → Translates text farm house given flags allowance' out' r' after'
      → translated_answer r' ≡ answer (reading_of text farm house flags) (allowed allowance') (length out')
  read_as allowance' out' after' r' c' =
      by_reading text farm house given flags allowance' out' after' r' c'
      ∙ ap₂ (λ d f. judged_answer d f (reading_of text farm house flags) allowance' (length out')) is_read is_fit

  lacks : (answer (reading_of text farm house flags) (allowed allowance) (length out)).number ≡ no_room
  lacks = sym (number_by (read_as allowance out after r c)) ∙ e

pub need : Need
need text farm house given flags allowance allowance' out after out' after' r r' up long c c' e =
    let t = reading_of text farm house flags in
    let same = read_as text farm house given flags allowance out after r c e allowance out after r c in
    let same' = read_as text farm house given flags allowance out after r c e allowance' out' after' r' c' ∙ ap (answer t (allowed allowance')) long in
    let l = lacks text farm house given flags allowance out after r c e in (
      ap (λ (a : Answer). a.need) same ∙ no_room_need t (allowed allowance) (length out) l,
      same' ∙ ap (λ k. answer t k (length out)) (sym (added t allowance allowance' up))
          ∙ need_stays t (allowed allowance) (length out) (allowed allowance' - allowed allowance) l ∙ sym same,
    )

pub asked_again : SecondAsk
asked_again text farm house given flags allowance out after out' after' r r' c e enough c' =
    let t = reading_of text farm house flags in
    let same = read_as text farm house given flags allowance out after r c e allowance out after r c in
    let same' = read_as text farm house given flags allowance out after r c e allowance out' after' r' c' in
    number_by same'
    ∙ second_ask t (allowed allowance) (length out) (length out') (lacks text farm house given flags allowance out after r c e)
    (subst (λ (a : Answer). a.need ≤ length out') same enough)
