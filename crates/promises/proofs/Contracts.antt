-- What is promised of is what the contracts say.
use mathlib.Core.Path.{refl, ap, sym, ◌∙◌}
use mathlib.Core.List.{◌++◌}
use lib.ListN.{length, drop}
use Rattle.numbers.proofs.PaperNumbers.{converted_kept}
use Rattle.dates.proofs.Outcomes as Dates
use Rattle.filter.specs.Answers.{answer_to}
use Rattle.nosgoludd.specs.Faces.{answer_face}
use Rattle.promises.specs.Ties.{Convert, ConvertDate, ReadUnsigned, CheckTable, BuildIndex, LookUp, LookUpValue, Translate, Evaluate, NosConvert, NosConvertDate, NosReadUnsigned, NosCheckTable, NosBuildIndex, NosLookUp, NosTranslate, NosEvaluate, ProgramAnswer, Any}

pub convert : Convert
convert κs call value buf after r learnt = record { answer = learnt.0; buffer = learnt.1 }

pub convert_date : ConvertDate
convert_date κs time format buf after r learnt = record { answer = learnt.0; buffer = learnt.1 }

pub read_unsigned : ReadUnsigned
read_unsigned κs text whole limit r learnt = record { answer = learnt }

pub check_table : CheckTable
check_table κs table r learnt = record { answer = learnt }

pub build_index : BuildIndex
build_index κs table out after r learnt = record { answer = learnt.0; buffer = learnt.1 }

pub look_up : LookUp
look_up κs tables index name r learnt = record { answer = learnt }

pub look_up_value : LookUpValue
look_up_value κs tables index name r learnt = record { answer = learnt }

pub translate : Translate
translate κs text tables index flags allowance out after r learnt = record { answer = learnt.0; buffer = learnt.1 }

pub evaluate : Evaluate
evaluate κs text tables allowance r learnt = record { answer = learnt }

pub nos_convert : NosConvert
nos_convert κs call value buf after r learnt =
    record {
      answer = _;
      allowed = record { answer = refl; buffer = learnt.1 };
      face = learnt.0 ∙ sym (ap answer_face (converted_kept call value (length buf.now)));
    }

pub nos_convert_date : NosConvertDate
nos_convert_date κs time format buf after r learnt =
    record {
      answer = _;
      allowed = record { answer = refl; buffer = learnt.1 };
      face = learnt.0 ∙ sym (ap answer_face (Dates.converted_kept time.now format.now (length buf.now)));
    }

pub nos_read_unsigned : NosReadUnsigned
nos_read_unsigned κs text whole limit r learnt = record { answer = _; allowed = record { answer = refl }; face = learnt }

pub nos_check_table : NosCheckTable
nos_check_table κs table r learnt = record { answer = _; allowed = record { answer = refl }; face = learnt }

pub nos_build_index : NosBuildIndex
nos_build_index κs table out after r learnt =
    record { answer = _; allowed = record { answer = refl; buffer = learnt.1 }; face = learnt.0 }

pub nos_look_up : NosLookUp
nos_look_up κs name farm house index indexed r learnt = record { answer = _; allowed = record { answer = refl }; face = learnt }

pub nos_translate : NosTranslate
nos_translate κs text farm house index indexed flags allowance out after r learnt =
    record { answer = _; allowed = record { answer = refl; buffer = learnt.1 }; face = learnt.0 }

pub nos_evaluate : NosEvaluate
nos_evaluate κs text farm house allowance r learnt = record { answer = _; allowed = record { answer = refl }; face = learnt }

pub program_answer : ProgramAnswer
program_answer κs text out after r learnt =
    (learnt.0, learnt.1 ∙ ap (λ n. answer_to text.now ++ drop n out.now) learnt.0)

pub any : Any
any =
    record {
      convert = λ κs call value buf. tt;
      convert_date = λ κs time format buf. tt;
      read_unsigned = λ κs text whole limit. tt;
      check_table = λ κs table. tt;
      build_index = λ κs table out. tt;
      look_up = λ κs tables index name. tt;
      look_up_value = λ κs tables index name. tt;
      translate = λ κs text tables index flags allowance out. tt;
      evaluate = λ κs text tables allowance. tt;
      nos_convert = λ κs call value buf. tt;
      nos_convert_date = λ κs time format buf. tt;
      nos_read_unsigned = λ κs text whole limit. tt;
      nos_check_table = λ κs table. tt;
      nos_build_index = λ κs table out. tt;
      nos_look_up = λ κs name farm house index indexed. tt;
      nos_translate = λ κs text farm house index indexed flags allowance out. tt;
      nos_evaluate = λ κs text farm house allowance. tt;
      program = λ κs text out. tt;
    }
