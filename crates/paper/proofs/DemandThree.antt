-- Demand 3, over all traces: what more look-ups and more room change in an answer, and when No room and Allowance spent come.
use mathlib.Core.Path.{◌≡◌, refl, ap, sym, subst, subst₂, ◌∙◌}
use mathlib.Core.Logic.{◌↔◌}
use Prim.Native.Nat.{ℕ, zero, suc, ◌+◌, ◌-◌, ◌≤◌, ◌<◌}
use native.Mathlib.Nat.{suc-add, zero-add, add_assoc}
use native.Mathlib.Decide.{dec_lt}
use native.Mathlib.Omega.{arith}
use lib.Dec.{ltb}
use lib.ListN.{length}
use Rattle.paper.specs.Answers.{in_text, Answer, Grown}
use Rattle.paper.specs.Refusals.{no_room, allowance_spent, over_length}
use Rattle.paper.specs.Traces.{fault_number, Trace, ended, faults, gives, asks, spends, enters, bytes, Run, finished, refused, onward, spending, run, run_number, fit, answer, Ending, done, faulted, beyond, ending, Succeeds, reached, look_ups}
use Rattle.paper.specs.declared.faults.Fault.{Fault}
use Rattle.paper.specs.declared.faults.Fault.TheVariants.{NoDigit, BadBase, TooBig, BadCode, BadString, BadReference, UnknownName, TooDeep, BadExpression, ZeroDivisor, NotAnInteger, CodeOver255}
use Rattle.paper.proofs.Choice.{below, not_below, either}

-- no fault has the number of No room, of Allowance spent or of Over length
pub fault_number_lem : (f : Fault)
    → (1 < fault_number f) × (fault_number f ≡ allowance_spent → ⊥) × (fault_number f ≤ 255) × (fault_number f ≡ over_length → ⊥)
fault_number_lem NoDigit = omega arith
fault_number_lem BadBase = omega arith
fault_number_lem TooBig = omega arith
fault_number_lem BadCode = omega arith
fault_number_lem BadString = omega arith
fault_number_lem BadReference = omega arith
fault_number_lem UnknownName = omega arith
fault_number_lem TooDeep = omega arith
fault_number_lem BadExpression = omega arith
fault_number_lem ZeroDivisor = omega arith
fault_number_lem NotAnInteger = omega arith
fault_number_lem CodeOver255 = omega arith

-- a run that is refused has the number of a fault or of Allowance spent, never that of an accepted answer, of No room or of Over length
record Numbered (r : Run) : Type 0 where
  number : (n place : ℕ) → r ≡ refused n place → (1 < n) × (n ≤ 255) × (n ≡ over_length → ⊥)

finished_numbered : (end left : ℕ) → Numbered (finished end left)
finished_numbered end left = record { number = λ n place e. absurd (clash n place e) }
  where
    clash : (n place : ℕ) → finished end left ≡ refused n place → ⊥
    clash n place e = let z : ◌≡◌ {A = ℕ} 0 1 = cc in omega arith

refused_numbered : (number place : ℕ) → (1 < number) × (number ≤ 255) × (number ≡ over_length → ⊥) → Numbered (refused number place)
refused_numbered number place over = record { number = λ n q e. same n q e }
  where
    same : (n q : ℕ) → refused number place ≡ refused n q → (1 < n) × (n ≤ 255) × (n ≡ over_length → ⊥)
    same n q e = let s : number ≡ n = cc in subst (λ m. (1 < m) × (m ≤ 255) × (m ≡ over_length → ⊥)) s over

onward_numbered : (r : Run) (place : ℕ) (rest : ℕ → Run) → Numbered r → ((left : ℕ) → Numbered (rest left)) → Numbered (onward r place rest)
onward_numbered (finished end left) place rest s f = f left
onward_numbered (refused number inner) place rest s f = refused_numbered number place (s.number number inner refl)

run_numbered : (t : Trace) (left : ℕ) → Numbered (run t left)
run_numbered (ended end) left = finished_numbered end left
run_numbered (faults fault place) left = refused_numbered (fault_number fault) place ((fault_number_lem fault).0, (fault_number_lem fault).2, (fault_number_lem fault).3)
run_numbered (gives byte rest) left = run_numbered rest left
run_numbered (asks name rest) left = run_numbered rest left
run_numbered (spends place rest) zero = refused_numbered allowance_spent place (omega arith)
run_numbered (spends place rest) (suc left) = run_numbered rest left
run_numbered (enters reference value rest) left = onward_numbered (run value left) reference.place (run rest) (run_numbered value left) (run_numbered rest)

pub refused_number : (t : Trace) (left number place : ℕ) → run t left ≡ refused number place → (1 < number) × (number ≤ 255) × (number ≡ over_length → ⊥)
refused_number t left number place e = (run_numbered t left).number number place e

-- the run that reaches where the reading leads, with so many look-ups left
abbrev with_left : ℕ → Ending → Run
with_left left (done end) = finished end left
with_left left (faulted fault place) = refused (fault_number fault) place

onward_ending : (o : Ending) (place more : ℕ) (rest : Trace)
    → run rest (look_ups rest + more) ≡ with_left more (ending rest)
    → onward (with_left (reached o (look_ups rest) + more) o) place (run rest) ≡ with_left more (beyond o place (ending rest))
onward_ending (done end) place more rest h = h
onward_ending (faulted fault inner) place more rest h = refl

-- with enough look-ups the run goes where the reading leads
pub enough : (t : Trace) (more : ℕ) → run t (look_ups t + more) ≡ with_left more (ending t)
enough (ended end) more = ap (finished end) (zero-add more)
enough (faults fault place) more = refl
enough (gives byte rest) more = enough rest more
enough (asks name rest) more = enough rest more
enough (spends place rest) more = ap (λ n. spending place n (run rest)) (suc-add (look_ups rest) more) ∙ enough rest more
enough (enters reference value rest) more =
    ap (λ n. onward (run value n) reference.place (run rest)) (add_assoc (look_ups value) (reached (ending value) (look_ups rest)) more)
    ∙ ap (λ r. onward r reference.place (run rest)) (enough value (reached (ending value) (look_ups rest) + more))
    ∙ onward_ending (ending value) reference.place more rest (enough rest more)

-- with too few it is refused with Allowance spent
record Spent (r : Run) : Type 0 where
  place : ℕ
  is : r ≡ refused allowance_spent place

spent_onward : (r : Run) (place : ℕ) (rest : ℕ → Run) → Spent r → Spent (onward r place rest)
spent_onward r place rest s = record { place = place; is = ap (λ r. onward r place rest) s.is }

spent_rest : (o : Ending) (place m : ℕ) (rest : Trace) → m < reached o (look_ups rest) → (m < look_ups rest → Spent (run rest m))
    → Spent (onward (with_left m o) place (run rest))
spent_rest (done end) place m rest less h = h less
spent_rest (faulted fault inner) place m rest less h = absurd (omega arith)

too_few : (t : Trace) (left : ℕ) → left < look_ups t → Spent (run t left)
too_few (ended end) left less = absurd (omega arith)
too_few (faults fault place) left less = absurd (omega arith)
too_few (gives byte rest) left less = too_few rest left less
too_few (asks name rest) left less = too_few rest left less
too_few (spends place rest) zero less = record { place = place; is = refl }
too_few (spends place rest) (suc left) less = too_few rest left (omega arith)
too_few (enters reference value rest) left less = go (dec_lt left (look_ups value)) (too_few value left) (λ m. too_few rest m)
  where
    go : Dec (left < look_ups value) → (left < look_ups value → Spent (run value left)) → ((m : ℕ) → m < look_ups rest → Spent (run rest m))
        → Spent (onward (run value left) reference.place (run rest))
    go (yes p) inner outer = spent_onward (run value left) reference.place (run rest) (inner p)
    go (no p) inner outer =
        let m : ℕ = left - look_ups value in
        let split : look_ups value + m ≡ left = omega arith in
        subst (λ r. Spent (onward r reference.place (run rest))) (sym (enough value m) ∙ ap (run value) split)
        (spent_rest (ending value) reference.place m rest (omega arith) (outer m))

-- a run that finished went where the reading leads, within its look-ups
pub finished_within : (t : Trace) (left end left' : ℕ) → run t left ≡ finished end left' → (look_ups t ≤ left) × (ending t ≡ done end)
finished_within t left end left' e = go (dec_lt left (look_ups t))
  where
    spent : Spent (run t left) → ⊥
    spent s = let p = s.is in let z : ◌≡◌ {A = ℕ} 0 1 = cc in omega arith

    led : (o : Ending) (m : ℕ) → with_left m o ≡ finished end left' → o ≡ done end
    led (done f) m h = ap done (cc)
    led (faulted fault place) m h = let z : ◌≡◌ {A = ℕ} 0 1 = cc in absurd (omega arith)

    go : Dec (left < look_ups t) → (look_ups t ≤ left) × (ending t ≡ done end)
    go (yes p) = absurd (spent (too_few t left p))
    go (no p) =
        let m : ℕ = left - look_ups t in
        let split : look_ups t + m ≡ left = omega arith in
        (omega arith, led (ending t) m (sym (enough t m) ∙ ap (run t) split ∙ e))

-- what is made of a run and does not see how many look-ups are left
pub record Blind {A : Type 0} (of : Run → A) : Type 0 where
  pub same : (end left left' : ℕ) → of (finished end left) ≡ of (finished end left')

blind_left : {A : Type 0} (of : Run → A) → Blind of → (o : Ending) (left left' : ℕ) → of (with_left left o) ≡ of (with_left left' o)
blind_left of b (done end) left left' = b.same end left left'
blind_left of b (faulted fault place) left left' = refl

module _ (t : Trace) where
  -- a run with look-ups enough goes where the reading leads
  reaches : {A : Type 0} (of : Run → A) → Blind of → (allowance : ℕ) → look_ups t ≤ allowance → of (run t allowance) ≡ of (with_left 0 (ending t))
  reaches of b allowance h =
      let m : ℕ = allowance - look_ups t in
      let split : look_ups t + m ≡ allowance = omega arith in
      ap of (ap (run t) (sym split) ∙ enough t m) ∙ blind_left of b (ending t) m 0

  spent_run : (allowance : ℕ) → allowance < look_ups t → run_number (run t allowance) ≡ allowance_spent
  spent_run allowance h = ap run_number (too_few t allowance h).is

  led_number : (o : Ending) → run_number (with_left 0 o) ≡ allowance_spent → ⊥
  led_number (done end) = λ e. omega arith
  led_number (faulted fault place) = (fault_number_lem fault).1

  -- a run is refused with Allowance spent exactly when the reading reaches one look-up more than allowed before any other refusal
  pub run_spent : (allowance : ℕ) → (run_number (run t allowance) ≡ allowance_spent) ↔ (allowance < look_ups t)
  run_spent allowance = (λ e. less e (dec_lt allowance (look_ups t)), spent_run allowance)
    where
      less : run_number (run t allowance) ≡ allowance_spent → Dec (allowance < look_ups t) → allowance < look_ups t
      less e (yes p) = p
      less e (no p) =
          absurd (led_number (ending t) (sym (reaches run_number (record { same = λ end l l'. refl }) allowance (omega arith)) ∙ e))

  -- what is made of any other run stays the same under every larger allowance
  pub run_more : {A : Type 0} (of : Run → A) → Blind of → (allowance more : ℕ) → (run_number (run t allowance) ≡ allowance_spent → ⊥)
      → of (run t (allowance + more)) ≡ of (run t allowance)
  run_more of b allowance more n = go (dec_lt allowance (look_ups t))
    where
      go : Dec (allowance < look_ups t) → of (run t (allowance + more)) ≡ of (run t allowance)
      go (yes p) = absurd (n (spent_run allowance p))
      go (no p) = reaches of b (allowance + more) (omega arith) ∙ sym (reaches of b allowance (omega arith))

fit_blind : (need room : ℕ) → Blind (λ r. fit r need room)
fit_blind need room = record { same = λ end l l'. refl }

-- an answer's number is Allowance spent exactly where its run's is
fit_spent : (r : Run) (need room : ℕ) → ((fit r need room).number ≡ allowance_spent) ↔ (run_number r ≡ allowance_spent)
fit_spent (finished end left) need room =
    either (λ (a : Answer). (a.number ≡ allowance_spent) ↔ (0 ≡ allowance_spent)) (ltb room need)
    (λ _. (λ e. omega arith, λ e. omega arith)) (λ _. (λ e. omega arith, λ e. omega arith))
fit_spent (refused number place) need room = (λ e. e, λ e. e)

module _ (t : Trace) where
  -- the answer where the look-ups are enough
  reading_answer : (allowance room : ℕ) → look_ups t ≤ allowance → answer t allowance room ≡ fit (with_left 0 (ending t)) (length (bytes t)) room
  reading_answer allowance room h = reaches t (λ r. fit r (length (bytes t)) room) (fit_blind (length (bytes t)) room) allowance h

  -- and where they are not
  spent_answer : (allowance room : ℕ) → allowance < look_ups t → (answer t allowance room).number ≡ allowance_spent
  spent_answer allowance room h = ap (λ r. (fit r (length (bytes t)) room).number) (too_few t allowance h).is

  -- Allowance spent comes exactly when the reading reaches one look-up more than allowed before any other refusal
  pub spent_exactly : (allowance room : ℕ) → ((answer t allowance room).number ≡ allowance_spent) ↔ (allowance < look_ups t)
  spent_exactly allowance room =
      let f = fit_spent (run t allowance) (length (bytes t)) room in
      let r = run_spent t allowance in
      (λ e. r.0 (f.0 e), λ h. f.1 (r.1 h))

  -- an answer other than Allowance spent stays the same under every larger allowance
  pub more_allowance : (allowance more room : ℕ) → ((answer t allowance room).number ≡ allowance_spent → ⊥)
      → answer t (allowance + more) room ≡ answer t allowance room
  more_allowance allowance more room n =
      run_more t (λ r. fit r (length (bytes t)) room) (fit_blind (length (bytes t)) room) allowance more
      (λ e. n ((fit_spent (run t allowance) (length (bytes t)) room).1 e))

-- a finished run is refused for want of room, or accepted
refused_fit : (end left need room : ℕ) → room < need
    → record { number = no_room; counted = in_text; place = 0; need = need; free = room } ≡ fit (finished end left) need room
refused_fit end left need room h = below room need _ _ h refl

accepted_fit : (end left need room : ℕ) → need ≤ room
    → record { number = 0; counted = in_text; place = end; need = need; free = room - need } ≡ fit (finished end left) need room
accepted_fit end left need room h = not_below room need _ _ h refl

fit_room : (o : Ending) (left need room : ℕ)
    → ((fit (with_left left o) need room).number ≡ no_room) ↔ (((end : ℕ) × (o ≡ done end)) × (room < need))
fit_room (done end) left need room =
    (λ e. ((end, refl), over e (dec_lt room need)), λ s. sym (ap (λ (a : Answer). a.number) (refused_fit end left need room s.1)))
  where
    over : (fit (finished end left) need room).number ≡ no_room → Dec (room < need) → room < need
    over e (yes p) = p
    over e (no p) = absurd (omega (arith, ap (λ (a : Answer). a.number) (accepted_fit end left need room (omega arith))))
fit_room (faulted fault place) left need room =
    (λ e. absurd (omega (arith, fault_number_lem fault)), λ s. absurd (clash s.0.0 s.0.1))
  where
    clash : (end : ℕ) → faulted fault place ≡ done end → ⊥
    clash end e = let z : ◌≡◌ {A = ℕ} 0 1 = cc in omega arith

fit_grows : (r : Run) (need room more : ℕ) → ((fit r need room).number ≡ no_room → ⊥) → Grown more (fit r need room) (fit r need (room + more))
fit_grows (refused number place) need room more n = record { number = refl; counted = refl; place = refl; need = refl; free = refl }
fit_grows (finished end left) need room more n = go (dec_lt room need)
  where
    go : Dec (room < need) → Grown more (fit (finished end left) need room) (fit (finished end left) need (room + more))
    go (yes p) = absurd (n (sym (ap (λ (a : Answer). a.number) (refused_fit end left need room p))))
    go (no p) =
        let fits : need ≤ room = omega arith in
        subst₂ (Grown more) (accepted_fit end left need room fits) (accepted_fit end left need (room + more) (omega arith))
        (record { number = refl; counted = refl; place = refl; need = refl; free = omega arith })

-- No room comes exactly when the reading succeeds within its allowance and needs more than the room
pub no_room_exactly : (t : Trace) (allowance room : ℕ)
    → ((answer t allowance room).number ≡ no_room) ↔ ((look_ups t ≤ allowance) × Succeeds t × (room < length (bytes t)))
no_room_exactly t allowance room = (λ e. there e (dec_lt allowance (look_ups t)), back)
  where
    there : (answer t allowance room).number ≡ no_room → Dec (allowance < look_ups t)
        → (look_ups t ≤ allowance) × Succeeds t × (room < length (bytes t))
    there e (yes p) = absurd (omega (arith, spent_answer t allowance room p))
    there e (no p) =
        let within : look_ups t ≤ allowance = omega arith in
        let both = (fit_room (ending t) 0 (length (bytes t)) room).0
        (sym (ap (λ (a : Answer). a.number) (reading_answer t allowance room within)) ∙ e) in
        (within, both.0, both.1)

    back : (look_ups t ≤ allowance) × Succeeds t × (room < length (bytes t)) → (answer t allowance room).number ≡ no_room
    back s =
        ap (λ (a : Answer). a.number) (reading_answer t allowance room s.0)
        ∙ (fit_room (ending t) 0 (length (bytes t)) room).1 (s.1, s.2)

-- its need is the length of the bytes given, whatever the allowance
pub no_room_need : (t : Trace) (allowance room : ℕ) → (answer t allowance room).number ≡ no_room → (answer t allowance room).need ≡ length (bytes t)
no_room_need t allowance room e =
    let s = (no_room_exactly t allowance room).0 e in
    ap (λ (a : Answer). a.need) (reading_answer t allowance room s.0)
    ∙ ap (λ o. (fit (with_left 0 o) (length (bytes t)) room).need) s.1.1
    ∙ sym (ap (λ (a : Answer). a.need) (refused_fit s.1.0 0 (length (bytes t)) room s.2))

-- an answer other than No room stays the same under every larger room, its free up by exactly the room added
pub more_room : (t : Trace) (allowance room more : ℕ) → ((answer t allowance room).number ≡ no_room → ⊥)
    → Grown more (answer t allowance room) (answer t allowance (room + more))
more_room t allowance room more = fit_grows (run t allowance) (length (bytes t)) room more

module _ (t : Trace) (allowance room : ℕ) where
  -- room and allowance together: an answer other than these two stays the same, its free up by exactly the room added
  pub more_of_both : (look-ups more : ℕ) → ((answer t allowance room).number ≡ no_room → ⊥) → ((answer t allowance room).number ≡ allowance_spent → ⊥)
      → Grown more (answer t allowance room) (answer t (allowance + look-ups) (room + more))
  more_of_both look-ups more n m =
      let g = more_room t allowance room more n in
      subst (Grown more (answer t allowance room))
      (sym (more_allowance t allowance look-ups (room + more) (λ e. m (sym g.number ∙ e)))) g

  -- the need of No room does not change with the allowance
  pub need_stays : (look-ups : ℕ) → (answer t allowance room).number ≡ no_room → answer t (allowance + look-ups) room ≡ answer t allowance room
  need_stays look-ups e = more_allowance t allowance look-ups room (λ s. absurd (omega arith))

  -- with the room that No room carries, and any larger one, the answer is accepted
  pub second_ask : (room' : ℕ) → (answer t allowance room).number ≡ no_room → (answer t allowance room).need ≤ room' → (answer t allowance room').number ≡ 0
  second_ask room' e enough-room =
      let s = (no_room_exactly t allowance room).0 e in
      let fits : length (bytes t) ≤ room' = omega (arith, no_room_need t allowance room e) in
      ap (λ (a : Answer). a.number) (reading_answer t allowance room' s.0)
      ∙ ap (λ o. (fit (with_left 0 o) (length (bytes t)) room').number) s.1.1
      ∙ sym (ap (λ (a : Answer). a.number) (accepted_fit s.1.0 0 (length (bytes t)) room' fits))

-- a refusal's free is the room, and its need is 0 but for No room
fit_refused : (r : Run) (need room : ℕ) → ((fit r need room).number ≡ 0 → ⊥)
    → ((fit r need room).free ≡ room) × (((fit r need room).number ≡ no_room → ⊥) → (fit r need room).need ≡ 0)
fit_refused (refused number place) need room = λ n. (refl, λ _. refl)
fit_refused (finished end left) need room =
    either (λ (a : Answer). (a.number ≡ 0 → ⊥) → (a.free ≡ room) × ((a.number ≡ no_room → ⊥) → a.need ≡ 0)) (ltb room need)
    (λ _ n. (refl, λ m. absurd (m refl))) (λ _ n. absurd (n refl))

pub refused_answer : (t : Trace) (allowance room : ℕ) → ((answer t allowance room).number ≡ 0 → ⊥)
    → ((answer t allowance room).free ≡ room) × (((answer t allowance room).number ≡ no_room → ⊥) → (answer t allowance room).need ≡ 0)
refused_answer t allowance room = fit_refused (run t allowance) (length (bytes t)) room

-- an accepted answer's need is the number of the bytes given
pub accepted_need : (t : Trace) (allowance room : ℕ) → (answer t allowance room).number ≡ 0 → (answer t allowance room).need ≡ length (bytes t)
accepted_need t allowance room = go (run t allowance) refl
  where
    go : (r : Run) → run t allowance ≡ r → (fit r (length (bytes t)) room).number ≡ 0 → (fit r (length (bytes t)) room).need ≡ length (bytes t)
    go (refused number place) e = λ z. absurd (omega (arith, refused_number t allowance number place e))
    go (finished end left) e =
        either (λ (a : Answer). a.number ≡ 0 → a.need ≡ length (bytes t)) (ltb room (length (bytes t))) (λ _ z. refl) (λ _ z. refl)

-- an answer is accepted exactly when the reading succeeds within its allowance and what it needs has room
pub accepted_exactly : (t : Trace) (allowance room : ℕ)
    → ((answer t allowance room).number ≡ 0) ↔ ((look_ups t ≤ allowance) × Succeeds t × (length (bytes t) ≤ room))
accepted_exactly t allowance room = (λ e. there e (dec_lt allowance (look_ups t)), back)
  where
    by_ending : (o : Ending) → (fit (with_left 0 o) (length (bytes t)) room).number ≡ 0 → ((end : ℕ) × (o ≡ done end)) × (length (bytes t) ≤ room)
    by_ending (done end) e = ((end, refl), fits (dec_lt room (length (bytes t))))
      where
        fits : Dec (room < length (bytes t)) → length (bytes t) ≤ room
        fits (yes p) = absurd (omega (arith, e, ap (λ (a : Answer). a.number) (refused_fit end 0 (length (bytes t)) room p)))
        fits (no p) = omega arith
    by_ending (faulted fault place) e = absurd (omega (arith, (fault_number_lem fault).0, e))

    there : (answer t allowance room).number ≡ 0 → Dec (allowance < look_ups t) → (look_ups t ≤ allowance) × Succeeds t × (length (bytes t) ≤ room)
    there e (yes p) = absurd (omega (arith, e, spent_answer t allowance room p))
    there e (no p) =
        let within : look_ups t ≤ allowance = omega arith in
        let both = by_ending (ending t) (sym (ap (λ (a : Answer). a.number) (reading_answer t allowance room within)) ∙ e) in
        (within, both.0, both.1)

    back : (look_ups t ≤ allowance) × Succeeds t × (length (bytes t) ≤ room) → (answer t allowance room).number ≡ 0
    back s =
        ap (λ (a : Answer). a.number) (reading_answer t allowance room s.0)
        ∙ ap (λ o. (fit (with_left 0 o) (length (bytes t)) room).number) s.1.1
        ∙ sym (ap (λ (a : Answer). a.number) (accepted_fit s.1.0 0 (length (bytes t)) room s.2))

-- and a run finishes exactly when the reading succeeds within its allowance
pub finished_exactly : (t : Trace) (allowance : ℕ) → (run_number (run t allowance) ≡ 0) ↔ ((look_ups t ≤ allowance) × Succeeds t)
finished_exactly t allowance = (there (run t allowance) refl, back)
  where
    there : (r : Run) → run t allowance ≡ r → run_number r ≡ 0 → (look_ups t ≤ allowance) × Succeeds t
    there (finished end left) e z = let w = finished_within t allowance end left e in (w.0, (end, w.1))
    there (refused number place) e z = absurd (omega (arith, (refused_number t allowance number place e).0, z))

    back : (look_ups t ≤ allowance) × Succeeds t → run_number (run t allowance) ≡ 0
    back s = reaches t run_number (record { same = λ end l l'. refl }) allowance s.0 ∙ ap (λ o. run_number (with_left 0 o)) s.1.1

-- no answer by a reading has the number of Over length
pub not_over_length : (t : Trace) (allowance room : ℕ) → (answer t allowance room).number ≡ over_length → ⊥
not_over_length t allowance room = go (run t allowance) refl
  where
    go : (r : Run) → run t allowance ≡ r → (fit r (length (bytes t)) room).number ≡ over_length → ⊥
    go (refused number place) e = (refused_number t allowance number place e).2
    go (finished end left) e =
        either (λ (a : Answer). a.number ≡ over_length → ⊥) (ltb room (length (bytes t))) (λ _ z. omega arith) (λ _ z. omega arith)
