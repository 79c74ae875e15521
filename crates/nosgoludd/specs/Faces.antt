-- An answer in its C form: the paper's numbers as the fields of a struct. A number that says nothing in an answer is 0.
use Rattle.std.specs.Prelude.{ℕ, Result}
use Rattle.paper.specs.Answers.{Answer}
use Rattle.paper.specs.declared.refusals.BadTable.{BadTable}
use Rattle.paper.specs.declared.refusals.Refused.{Refused}
use Rattle.reader.specs.Reading.{read_number, read_value, read_place}
use Rattle.reader.specs.declared.Number.{Number}
use Rattle.variables.specs.Tables.{check_number, check_count, check_place}
use Rattle.lookups.specs.Lookups.{Found, found_number, found_counted, found_place, found_kind, found_length, found_start}
use Rattle.expressions.specs.Answers.{Evaluated, evaluated_number, evaluated_counted, evaluated_place, evaluated_value}
use Rattle.nosgoludd.specs.declared.NosAnswer.{NosAnswer}
use Rattle.nosgoludd.specs.declared.readings.NosNumber.{NosNumber}
use Rattle.nosgoludd.specs.declared.checks.NosChecked.{NosChecked}
use Rattle.nosgoludd.specs.declared.meanings.NosVariable.{NosVariable}
use Rattle.nosgoludd.specs.declared.evaluations.NosValue.{NosValue}

abbrev pub answer_face : Answer → NosAnswer
answer_face a = record { number = a.number; counted = a.counted; place = a.place; need = a.need; free = a.free }

abbrev pub reading_face : Result Number Refused → NosNumber
reading_face r = record { number = read_number r; value = read_value r; place = read_place r }

abbrev pub check_face : Result ℕ BadTable → NosChecked
check_face r = record { number = check_number r; records = check_count r; place = check_place r }

abbrev pub found_face : Found → NosVariable
found_face r =
    record {
      number = found_number r;
      counted = found_counted r;
      place = found_place r;
      kind = found_kind r;
      length = found_length r;
      start = found_start r;
    }

abbrev pub evaluation_face : Evaluated → NosValue
evaluation_face r =
    record { number = evaluated_number r; counted = evaluated_counted r; place = evaluated_place r; value = evaluated_value r }
