-- What a run makes: where it comes to the text's end all the bytes that the reading gives, and nothing behind a refusal.
use mathlib.Core.List.{[], ◌∷◌, ◌++◌}
use mathlib.Core.Path.{◌≡◌, refl, ap, ap₂, ◌∙◌}
use Prim.Native.Nat.{ℕ, zero, suc}
use Rattle.paper.specs.Traces.{Trace, ended, faults, gives, asks, spends, enters, bytes, Run, finished, refused, onward, run, finished_on, made, asked}
use Rattle.paper.specs.declared.faults.Fault.TheVariants.{BadCode}
use Rattle.paper.proofs.Choice.{clash}

-- a run that finished behind a macro finished the macro's value, and went on
pub record WentOn (r : Run) (rest : ℕ → Run) (end left : ℕ) : Type 0 where
  pub inner : ℕ
  pub spare : ℕ
  pub value : r ≡ finished inner spare
  pub behind : rest spare ≡ finished end left

pub went_on : (r : Run) (place end left : ℕ) (rest : ℕ → Run) → onward r place rest ≡ finished end left → WentOn r rest end left
went_on (finished inner spare) place end left rest e = record { inner = inner; spare = spare; value = refl; behind = e }
went_on (refused number inner) place end left rest e = clash (cc)

-- at the text's end a run has made all the bytes that the reading gives
pub made_whole : (t : Trace) (left end left' : ℕ) → run t left ≡ finished end left' → made t left ≡ bytes t
made_whole (ended end) left e l h = refl
made_whole (faults fault place) left e l h = clash (cc)
made_whole (gives byte rest) left e l h = ap (λ bs. byte ∷ bs) (made_whole rest left e l h)
made_whole (asks name rest) left e l h = made_whole rest left e l h
made_whole (spends place rest) zero e l h = clash (cc)
made_whole (spends place rest) (suc left) e l h = made_whole rest left e l h
made_whole (enters reference value rest) left e l h =
    let w = went_on (run value left) reference.place e l (run rest) h in
    ap₂ ◌++◌ (made_whole value left w.inner w.spare w.value)
    (ap (λ r. finished_on r (made rest)) w.value ∙ made_whole rest w.spare e l w.behind)

-- the text `<m>b` with a macro m whose code is bad: nothing is made of it, though m was asked for
abbrev refused_macro : Trace
refused_macro = asks (109 ∷ []) (spends 0 (enters (record { name = 109 ∷ []; place = 0 }) (faults BadCode 0) (gives 98 (ended 4))))

made_of_refused : made refused_macro 1 ≡ []
made_of_refused = refl

asked_of_refused : asked refused_macro 1 ≡ (109 ∷ []) ∷ []
asked_of_refused = refl

-- and of `b<m>c` without a look-up for m the byte before it is made, and m is asked for
abbrev spent_at : Trace
spent_at = gives 98 (asks (109 ∷ []) (spends 1 (gives 99 (ended 5))))

made_of_spent : made spent_at 0 ≡ 98 ∷ []
made_of_spent = refl

asked_of_spent : asked spent_at 0 ≡ (109 ∷ []) ∷ []
asked_of_spent = refl
