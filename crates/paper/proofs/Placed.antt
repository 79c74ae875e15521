-- Where a trace's places lie: a run ends or is refused at one of them.
use mathlib.Core.List.{List}
use Prim.Native.Nat.{ℕ, zero, suc, ◌≤◌}
use Rattle.paper.specs.Traces.{Reference, Trace, ended, faults, gives, asks, spends, enters, Run, finished, refused, onward, spending, run, run_place}
use Rattle.paper.specs.declared.faults.Fault.{Fault}

-- every place of this level lies in a text of so many bytes, and so do those of the macros' values in theirs
pub data Placed : ℕ → Trace → Type 0 where
  ended_at : {size : ℕ} {end : ℕ} → end ≤ size → Placed size (ended end)
  faults_at : {size : ℕ} {fault : Fault} {place : ℕ} → place ≤ size → Placed size (faults fault place)
  gives_on : {size : ℕ} {byte : ℕ} {rest : Trace} → Placed size rest → Placed size (gives byte rest)
  asks_on : {size : ℕ} {name : List ℕ} {rest : Trace} → Placed size rest → Placed size (asks name rest)
  spends_at : {size : ℕ} {place : ℕ} {rest : Trace} → place ≤ size → Placed size rest → Placed size (spends place rest)
  enters_at : {size inner : ℕ} {reference : Reference} {value rest : Trace} → reference.place ≤ size → Placed inner value → Placed size rest
      → Placed size (enters reference value rest)

onward_placed : (r : Run) (size place : ℕ) (rest : ℕ → Run) → place ≤ size → ((left : ℕ) → run_place (rest left) ≤ size) → run_place (onward r place rest) ≤ size
onward_placed (finished end left) size place rest p f = f left
onward_placed (refused number inner) size place rest p f = p

spending_placed : (left size place : ℕ) (rest : ℕ → Run) → place ≤ size → ((left : ℕ) → run_place (rest left) ≤ size) → run_place (spending place left rest) ≤ size
spending_placed zero size place rest p f = p
spending_placed (suc left) size place rest p f = f left

pub run_placed : {size : ℕ} {t : Trace} → Placed size t → (left : ℕ) → run_place (run t left) ≤ size
run_placed (ended_at p) left = p
run_placed (faults_at p) left = p
run_placed (gives_on t) left = run_placed t left
run_placed (asks_on t) left = run_placed t left
run_placed {size = size} (spends_at {place = q} {rest = r} p t) left = spending_placed left size q (run r) p (run_placed t)
run_placed {size = size} (enters_at {reference = q} {value = v} {rest = r} p i t) left = onward_placed (run v left) size q.place (run r) p (run_placed t)
