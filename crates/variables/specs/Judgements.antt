-- What is found of a text and the tables before the text is read.
use Rattle.std.specs.Prelude.{cond, List, ℕ, ◌+◌, Result, Ok, Err}
use Rattle.paper.specs.Refusals.{too_long}
use Rattle.paper.specs.declared.Holder.{Holder}
use Rattle.paper.specs.declared.Holder.TheVariants.{Farm, House}
use Rattle.paper.specs.declared.refusals.BadTable.{BadTable}
use Rattle.paper.specs.declared.refusals.BadTableOf.{BadTableOf}
use Rattle.paper.specs.declared.refusals.Refusal.{Refusal}
use Rattle.paper.specs.declared.refusals.Refusal.TheVariants.{OverLength}
use Rattle.variables.specs.Tables.{scan}

abbrev pub bad_table_at : Refusal → Holder → ℕ → Result ℕ BadTableOf
bad_table_at why holder place = Err (record { why = why; holder = holder; at = record { 0 = place } })

-- the scan of one table, and what follows where it is good
abbrev pub scanned_then : Holder → Result ℕ BadTable → (ℕ → Result ℕ BadTableOf) → Result ℕ BadTableOf
scanned_then holder (Ok count) rest = rest count
scanned_then holder (Err bad) rest = bad_table_at bad.why holder bad.at.0

-- so many records in both
abbrev pub behind_own : ℕ → ℕ → Result ℕ BadTableOf
behind_own own count = Ok (own + count)

-- Bad table of the farm's, of the house's
abbrev pub scanned_both : List ℕ → List ℕ → Result ℕ BadTableOf
scanned_both farm house = scanned_then Farm (scan farm) (λ own. scanned_then House (scan house) (behind_own own))

-- Over length of the farm's table, of the house's, then these: the first of them all
unfoldable pub judged : List ℕ → List ℕ → Result ℕ BadTableOf
judged farm house =
    cond (too_long farm) (bad_table_at OverLength Farm 0) (
    cond (too_long house) (bad_table_at OverLength House 0) (
    scanned_both farm house))

pub data Judgement : Type 0 where
  good : Judgement
  -- Over length, of the text
  long_text : Judgement
  -- why, the table, and the place in it
  bad_table : Refusal → Holder → ℕ → Judgement

abbrev pub judged_by : Result ℕ BadTableOf → Judgement
judged_by (Ok count) = good
judged_by (Err bad) = bad_table bad.why bad.holder bad.at.0

-- Over length of the text comes first
abbrev pub judgement : List ℕ → List ℕ → List ℕ → Judgement
judgement text farm house = cond (too_long text) long_text (judged_by (judged farm house))
