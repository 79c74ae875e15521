-- That the promises are made of the contracts themselves: whatever a caller learns of a call is what `Allowed` has, and a call asks nothing of
-- its arguments, so that every input is taken.
use Rattle.std.specs.Prelude.{Bool, not, List, ◌++◌, ◌≡◌, ℕ, eqb, length, drop, Result, Option}
use contract.Lifetimes.{Lfts}
use Rattle.std.specs.Borrow.{Bor, MutBor}
use Rattle.numbers.proofs.convert.Reads as convert
use Rattle.dates.proofs.convert_date.Reads as convert_date
use Rattle.reader.proofs.read_unsigned.Reads as read_unsigned
use Rattle.paper.specs.declared.refusals.Refused.{Refused}
use Rattle.reader.specs.declared.Number.{Number}
use Rattle.variables.proofs.check_table.Reads as check_table
use Rattle.variables.specs.declared.both.Tables.{Tables}
use Rattle.indexes.proofs.building.build_index.Reads as build_index
use Rattle.indexes.specs.Indexes.{Given, given_by, given_as}
use Rattle.indexes.specs.Buildings.{built_answer}
use Rattle.indexes.specs.declared.building.Built.{Built}
use Rattle.indexes.specs.declared.building.NotBuilt.{NotBuilt}
use Rattle.lookups.proofs.look_up.Reads as look_up
use Rattle.lookups.proofs.look_up_value.Reads as look_up_value
use Rattle.lookups.specs.Lookups.{Found}
use Rattle.paper.specs.declared.refusals.BadTable.{BadTable}
use Rattle.gs.proofs.translate.Reads as translate
use Rattle.symbols.specs.declared.flags.Flags.{Flags}
use Rattle.expressions.proofs.evaluate.Reads as evaluate
use Rattle.expressions.specs.Answers.{Evaluated}
use Rattle.paper.specs.Layings.{Converted, converted_answer}
use Rattle.gs.specs.Translations.{Translation, translated_answer}
use Rattle.filter.proofs.answer.Reads as program
use Rattle.filter.specs.Answers.{answer_to}
use Rattle.nosgoludd.proofs.conversions.nos_convert.Reads as nos_convert
use Rattle.nosgoludd.proofs.conversions.nos_convert_date.Reads as nos_convert_date
use Rattle.nosgoludd.proofs.readings.nos_read_unsigned.Reads as nos_read_unsigned
use Rattle.nosgoludd.proofs.checks.nos_check_table.Reads as nos_check_table
use Rattle.nosgoludd.proofs.buildings.nos_build_index.Reads as nos_build_index
use Rattle.nosgoludd.proofs.meanings.nos_look_up.Reads as nos_look_up
use Rattle.nosgoludd.proofs.translations.nos_translate.Reads as nos_translate
use Rattle.nosgoludd.proofs.evaluations.nos_evaluate.Reads as nos_evaluate
use Rattle.nosgoludd.specs.Faces.{answer_face, reading_face, check_face, found_face, evaluation_face}
use Rattle.nosgoludd.specs.declared.NosAnswer.{NosAnswer}
use Rattle.nosgoludd.specs.declared.readings.NosNumber.{NosNumber}
use Rattle.nosgoludd.specs.declared.checks.NosChecked.{NosChecked}
use Rattle.nosgoludd.specs.declared.meanings.NosVariable.{NosVariable}
use Rattle.nosgoludd.specs.declared.evaluations.NosValue.{NosValue}
use Rattle.promises.specs.Allowed.{Converts, Dates, Reads, Checks, Builds, LooksUp, HandsBack, Translates, Evaluates}

abbrev pub Convert : Type 0
Convert =
    (κs : Lfts 1) (call value : ℕ) (buf after : MutBor (List ℕ)) (r : Converted)
    → convert.Learnt κs (call, (value, (buf, tt))) r (call, (value, (after, tt))) → Converts call value buf.now r after.now

abbrev pub ConvertDate : Type 0
ConvertDate =
    (κs : Lfts 3) (time format : Bor (List ℕ)) (buf after : MutBor (List ℕ)) (r : Converted)
    → convert_date.Learnt κs (time, (format, (buf, tt))) r (time, (format, (after, tt))) → Dates time.now format.now buf.now r after.now

abbrev pub ReadUnsigned : Type 0
ReadUnsigned =
    (κs : Lfts 1) (text : Bor (List ℕ)) (whole : Bool) (limit : ℕ) (r : Result Number Refused)
    → read_unsigned.Learnt κs (text, (whole, (limit, tt))) r (text, (whole, (limit, tt))) → Reads text.now whole limit r

abbrev pub CheckTable : Type 0
CheckTable = (κs : Lfts 1) (table : Bor (List ℕ)) (r : Result ℕ BadTable) → check_table.Learnt κs (table, tt) r (table, tt) → Checks table.now r

abbrev pub BuildIndex : Type 0
BuildIndex =
    (κs : Lfts 2) (table : Bor (List ℕ)) (out after : MutBor (List ℕ)) (r : Result Built NotBuilt)
    → build_index.Learnt κs (table, (out, tt)) r (table, (after, tt)) → Builds table.now out.now r after.now

abbrev pub LookUp : Type 0
LookUp =
    (κs : Lfts 4) (tables : Bor Tables) (index : Option (Bor (List ℕ))) (name : Bor (List ℕ)) (r : Found)
    → look_up.Learnt κs (tables, (index, (name, tt))) r (tables, (index, (name, tt)))
    → LooksUp tables.now.farm.now tables.now.house.now (given_as index) name.now r

abbrev pub LookUpValue : Type 0
LookUpValue =
    (κs : Lfts 4) (tables : Bor Tables) (index : Option (Bor (List ℕ))) (name r : Bor (List ℕ))
    → look_up_value.Learnt κs (tables, (index, (name, tt))) r (tables, (index, (name, tt)))
    → HandsBack tables.now.farm.now tables.now.house.now (given_as index) name.now r.now

abbrev pub Translate : Type 0
Translate =
    (κs : Lfts 5) (text : Bor (List ℕ)) (tables : Bor Tables) (index : Option (Bor (List ℕ))) (flags : Flags) (allowance : ℕ) (out after : MutBor (List ℕ))
    (r : Translation)
    → translate.Learnt κs (text, (tables, (index, (flags, (allowance, (out, tt)))))) r (text, (tables, (index, (flags, (allowance, (after, tt))))))
    → Translates text.now tables.now.farm.now tables.now.house.now (given_as index) flags.0 allowance out.now r after.now

abbrev pub Evaluate : Type 0
Evaluate =
    (κs : Lfts 3) (text : Bor (List ℕ)) (tables : Bor Tables) (allowance : ℕ) (r : Evaluated)
    → evaluate.Learnt κs (text, (tables, (allowance, tt))) r (text, (tables, (allowance, tt)))
    → Evaluates text.now tables.now.farm.now tables.now.house.now allowance r

-- The C face: what a caller learns is the fields of an answer that the operation's contract allows, and what it leaves
pub record FaceConverts (call value : ℕ) (buf : List ℕ) (r : NosAnswer) (after : List ℕ) : Type 0 where
  pub answer : Converted
  pub allowed : Converts call value buf answer after
  pub face : r ≡ answer_face (converted_answer answer)

abbrev pub NosConvert : Type 0
NosConvert =
    (κs : Lfts 1) (call value : ℕ) (buf after : MutBor (List ℕ)) (r : NosAnswer)
    → nos_convert.Learnt κs (call, (value, (buf, tt))) r (call, (value, (after, tt))) → FaceConverts call value buf.now r after.now

pub record FaceDates (time format buf : List ℕ) (r : NosAnswer) (after : List ℕ) : Type 0 where
  pub answer : Converted
  pub allowed : Dates time format buf answer after
  pub face : r ≡ answer_face (converted_answer answer)

abbrev pub NosConvertDate : Type 0
NosConvertDate =
    (κs : Lfts 3) (time format : Bor (List ℕ)) (buf after : MutBor (List ℕ)) (r : NosAnswer)
    → nos_convert_date.Learnt κs (time, (format, (buf, tt))) r (time, (format, (after, tt)))
    → FaceDates time.now format.now buf.now r after.now

-- whole is off at 0 and on at every other number
pub record FaceReads (text : List ℕ) (whole limit : ℕ) (r : NosNumber) : Type 0 where
  pub answer : Result Number Refused
  pub allowed : Reads text (not (eqb whole 0)) limit answer
  pub face : r ≡ reading_face answer

abbrev pub NosReadUnsigned : Type 0
NosReadUnsigned =
    (κs : Lfts 1) (text : Bor (List ℕ)) (whole limit : ℕ) (r : NosNumber)
    → nos_read_unsigned.Learnt κs (text, (whole, (limit, tt))) r (text, (whole, (limit, tt))) → FaceReads text.now whole limit r

pub record FaceChecks (table : List ℕ) (r : NosChecked) : Type 0 where
  pub answer : Result ℕ BadTable
  pub allowed : Checks table answer
  pub face : r ≡ check_face answer

abbrev pub NosCheckTable : Type 0
NosCheckTable = (κs : Lfts 1) (table : Bor (List ℕ)) (r : NosChecked) → nos_check_table.Learnt κs (table, tt) r (table, tt) → FaceChecks table.now r

pub record FaceBuilds (table out : List ℕ) (r : NosAnswer) (after : List ℕ) : Type 0 where
  pub answer : Result Built NotBuilt
  pub allowed : Builds table out answer after
  pub face : r ≡ answer_face (built_answer answer)

abbrev pub NosBuildIndex : Type 0
NosBuildIndex =
    (κs : Lfts 2) (table : Bor (List ℕ)) (out after : MutBor (List ℕ)) (r : NosAnswer)
    → nos_build_index.Learnt κs (table, (out, tt)) r (table, (after, tt)) → FaceBuilds table.now out.now r after.now

-- there is no index at 0, and one at every other number
abbrev pub given_at : ℕ → List ℕ → Given
given_at indexed index = given_by (not (eqb indexed 0)) index

pub record FaceLooksUp (farm house : List ℕ) (given : Given) (name : List ℕ) (r : NosVariable) : Type 0 where
  pub answer : Found
  pub allowed : LooksUp farm house given name answer
  pub face : r ≡ found_face answer

abbrev pub NosLookUp : Type 0
NosLookUp =
    (κs : Lfts 3) (name farm house index : Bor (List ℕ)) (indexed : ℕ) (r : NosVariable)
    → nos_look_up.Learnt κs (name, (farm, (house, (index, (indexed, tt))))) r (name, (farm, (house, (index, (indexed, tt)))))
    → FaceLooksUp farm.now house.now (given_at indexed index.now) name.now r

pub record FaceTranslates (text farm house : List ℕ) (given : Given) (flags allowance : ℕ) (out : List ℕ) (r : NosAnswer) (after : List ℕ) : Type 0 where
  pub answer : Translation
  pub allowed : Translates text farm house given flags allowance out answer after
  pub face : r ≡ answer_face (translated_answer answer)

abbrev pub NosTranslate : Type 0
NosTranslate =
    (κs : Lfts 4) (text farm house index : Bor (List ℕ)) (indexed flags allowance : ℕ) (out after : MutBor (List ℕ)) (r : NosAnswer)
    → nos_translate.Learnt κs (text, (farm, (house, (index, (indexed, (flags, (allowance, (out, tt)))))))) r
    (text, (farm, (house, (index, (indexed, (flags, (allowance, (after, tt))))))))
    → FaceTranslates text.now farm.now house.now (given_at indexed index.now) flags allowance out.now r after.now

pub record FaceEvaluates (text farm house : List ℕ) (allowance : ℕ) (r : NosValue) : Type 0 where
  pub answer : Evaluated
  pub allowed : Evaluates text farm house allowance answer
  pub face : r ≡ evaluation_face answer

abbrev pub NosEvaluate : Type 0
NosEvaluate =
    (κs : Lfts 2) (text farm house : Bor (List ℕ)) (allowance : ℕ) (r : NosValue)
    → nos_evaluate.Learnt κs (text, (farm, (house, (allowance, tt)))) r (text, (farm, (house, (allowance, tt)))) → FaceEvaluates text.now farm.now house.now allowance r

-- The program's answer to a text: its translation, or the line of its refusal, at the start of the buffer, and the rest of the buffer kept
abbrev pub ProgramAnswer : Type 0
ProgramAnswer =
    (κs : Lfts 2) (text : Bor (List ℕ)) (out after : MutBor (List ℕ)) (r : ℕ)
    → program.Learnt κs (text, (out, tt)) r (text, (after, tt))
    → (r ≡ length (answer_to text.now)) × (after.now ≡ answer_to text.now ++ drop (length (answer_to text.now)) out.now)

-- nothing is asked of any argument
pub record Any : Type 0 where
  pub convert : (κs : Lfts 1) (call value : ℕ) (buf : MutBor (List ℕ)) → convert.Asked κs (call, (value, (buf, tt)))
  pub convert_date : (κs : Lfts 3) (time format : Bor (List ℕ)) (buf : MutBor (List ℕ)) → convert_date.Asked κs (time, (format, (buf, tt)))
  pub read_unsigned : (κs : Lfts 1) (text : Bor (List ℕ)) (whole : Bool) (limit : ℕ) → read_unsigned.Asked κs (text, (whole, (limit, tt)))
  pub check_table : (κs : Lfts 1) (table : Bor (List ℕ)) → check_table.Asked κs (table, tt)
  pub build_index : (κs : Lfts 2) (table : Bor (List ℕ)) (out : MutBor (List ℕ)) → build_index.Asked κs (table, (out, tt))
  pub look_up : (κs : Lfts 4) (tables : Bor Tables) (index : Option (Bor (List ℕ))) (name : Bor (List ℕ)) → look_up.Asked κs (tables, (index, (name, tt)))
  pub look_up_value : (κs : Lfts 4) (tables : Bor Tables) (index : Option (Bor (List ℕ))) (name : Bor (List ℕ))
      → look_up_value.Asked κs (tables, (index, (name, tt)))
  pub translate : (κs : Lfts 5) (text : Bor (List ℕ)) (tables : Bor Tables) (index : Option (Bor (List ℕ))) (flags : Flags) (allowance : ℕ) (out : MutBor (List ℕ))
      → translate.Asked κs (text, (tables, (index, (flags, (allowance, (out, tt))))))
  pub evaluate : (κs : Lfts 3) (text : Bor (List ℕ)) (tables : Bor Tables) (allowance : ℕ) → evaluate.Asked κs (text, (tables, (allowance, tt)))
  pub nos_convert : (κs : Lfts 1) (call value : ℕ) (buf : MutBor (List ℕ)) → nos_convert.Asked κs (call, (value, (buf, tt)))
  pub nos_convert_date : (κs : Lfts 3) (time format : Bor (List ℕ)) (buf : MutBor (List ℕ)) → nos_convert_date.Asked κs (time, (format, (buf, tt)))
  pub nos_read_unsigned : (κs : Lfts 1) (text : Bor (List ℕ)) (whole limit : ℕ) → nos_read_unsigned.Asked κs (text, (whole, (limit, tt)))
  pub nos_check_table : (κs : Lfts 1) (table : Bor (List ℕ)) → nos_check_table.Asked κs (table, tt)
  pub nos_build_index : (κs : Lfts 2) (table : Bor (List ℕ)) (out : MutBor (List ℕ)) → nos_build_index.Asked κs (table, (out, tt))
  pub nos_look_up : (κs : Lfts 3) (name farm house index : Bor (List ℕ)) (indexed : ℕ)
      → nos_look_up.Asked κs (name, (farm, (house, (index, (indexed, tt)))))
  pub nos_translate : (κs : Lfts 4) (text farm house index : Bor (List ℕ)) (indexed flags allowance : ℕ) (out : MutBor (List ℕ))
      → nos_translate.Asked κs (text, (farm, (house, (index, (indexed, (flags, (allowance, (out, tt))))))))
  pub nos_evaluate : (κs : Lfts 2) (text farm house : Bor (List ℕ)) (allowance : ℕ) → nos_evaluate.Asked κs (text, (farm, (house, (allowance, tt))))
  pub program : (κs : Lfts 2) (text : Bor (List ℕ)) (out : MutBor (List ℕ)) → program.Asked κs (text, (out, tt))
