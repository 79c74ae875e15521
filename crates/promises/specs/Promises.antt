-- Everything that is promised, as one record: what has it keeps every promise.
use Rattle.promises.specs.Ties as Ties
use Rattle.promises.specs.Examples.{All, examples}
use Rattle.promises.specs.Conversions as Conversions
use Rattle.promises.specs.Dates as Dates
use Rattle.promises.specs.Readings as Readings
use Rattle.promises.specs.TwoTables as TwoTables
use Rattle.promises.specs.Lookups as Lookups
use Rattle.promises.specs.Indexes as Indexes
use Rattle.promises.specs.Translations as Translations
use Rattle.promises.specs.Codes as Codes
use Rattle.promises.specs.Evaluations as Evaluations
use Rattle.promises.specs.Determined.{Determined}

pub record Promises : Type 0 where
  pub worked_examples : All examples
  -- demand 1: every operation takes any input
  pub any_input : Ties.Any
  -- `convert`
  pub convert_tied : Ties.Convert
  pub convert_one_answer : Conversions.OneAnswer
  pub convert_accepts : Conversions.Accepts
  pub convert_refusals : Conversions.Refusals
  pub convert_exact : Conversions.Exact
  pub convert_offset_and_free : Conversions.OffsetAndFree
  pub convert_bytes : Conversions.Bytes
  pub convert_x_form : Conversions.XForm
  pub convert_terminated : Conversions.Terminated
  pub convert_characters_alone : Conversions.CharactersAlone
  pub convert_same_characters : Conversions.SameCharacters
  pub convert_reads_back : Conversions.ReadsBack
  pub convert_larger_room : Conversions.LargerRoom
  pub convert_second_ask : Conversions.SecondAsk
  -- `convert_date`
  pub date_tied : Ties.ConvertDate
  pub date_one_answer : Dates.OneAnswer
  pub date_accepts : Dates.Accepts
  pub date_refusals : Dates.Refusals
  pub date_exact : Dates.Exact
  pub date_offset_and_free : Dates.OffsetAndFree
  pub date_bad_field : Dates.BadField
  pub date_bytes : Dates.Bytes
  pub date_larger_room : Dates.LargerRoom
  pub date_second_ask : Dates.SecondAsk
  pub date_need_by_format : Dates.NeedByFormat
  pub date_of_a_day : Dates.OfADay
  pub date_leap_years : Dates.LeapYears
  -- `read_unsigned`
  pub read_tied : Ties.ReadUnsigned
  pub read_one_answer : Readings.OneAnswer
  pub read_accepts : Readings.Accepts
  pub read_refusals : Readings.Refusals
  -- two tables: how they are judged, what a name means in them, what it spends
  pub tables_judged_in_order : TwoTables.InOrder
  pub farm_first : TwoTables.FarmFirst
  pub house_next : TwoTables.HouseNext
  pub empty_farm : TwoTables.EmptyFarm
  pub read_by_names : TwoTables.ByNames
  pub macro_of_either : TwoTables.MacroOfEither
  pub one_look_up : TwoTables.OneLookUp
  pub no_look_up : TwoTables.NoLookUp
  -- `check_table`, `look_up` and `look_up_value`
  pub check_tied : Ties.CheckTable
  pub check_one_answer : Lookups.OneCheck
  pub check_accepts : Lookups.CheckAccepts
  pub check_refusals : Lookups.CheckRefusals
  pub check_over_length : Lookups.OverLength
  pub check_records : Lookups.Good
  pub look_up_tied : Ties.LookUp
  pub look_up_one_answer : Lookups.OneFound
  pub look_up_accepts : Lookups.LookUpAccepts
  pub look_up_refusals : Lookups.LookUpRefusals
  pub look_up_judges : Lookups.Judges
  pub look_up_known : Lookups.Known
  pub look_up_finds : Lookups.Finds
  pub look_up_hides : Lookups.Hides
  pub look_up_misses : Lookups.Misses
  pub look_up_bad_index : Lookups.BadIndex
  pub look_up_refused : Lookups.Refused
  pub look_up_through : Lookups.Through
  pub look_up_inside : Lookups.Inside
  pub look_up_value_tied : Ties.LookUpValue
  pub look_up_value_one_part : Lookups.OnePart
  pub look_up_value_part : Lookups.Part
  -- `build_index`, and an index beside the house's table
  pub names_in_order : Indexes.Order
  pub one_arrangement : Indexes.OneArrangement
  pub build_tied : Ties.BuildIndex
  pub build_one_answer : Indexes.OneAnswer
  pub build_accepts : Indexes.Accepts
  pub build_refusals : Indexes.Refusals
  pub build_exact : Indexes.Exact
  pub build_larger_room : Indexes.LargerRoom
  pub build_second_ask : Indexes.SecondAsk
  pub index_fits : Indexes.Fits
  pub built_fits : Indexes.BuiltFits
  pub indexed_by_number : Indexes.ByNumber
  pub search_by_halving : Indexes.ByHalving
  -- `translate`
  pub translate_tied : Ties.Translate
  pub translate_one_answer : Translations.OneAnswer
  pub translate_accepts : Translations.Accepts
  pub translate_refusals : Translations.Refusals
  pub translate_kept : Translations.Kept
  pub translate_refused : Translations.Refused
  pub translate_bytes : Translations.Bytes
  pub translate_by_reading : Translations.ByReading
  pub translate_accepted : Translations.Accepted
  pub translate_over_length : Translations.OverLength
  pub translate_bad_index : Translations.BadIndex
  pub translate_through : Translations.Through
  pub translate_larger : Translations.Larger
  pub translate_no_room : Translations.NoRoom
  pub translate_need : Translations.Need
  pub translate_spent : Translations.Spent
  pub translate_second_ask : Translations.SecondAsk
  -- a number that a text refers to
  pub number_met : Codes.Met
  pub number_unread : Codes.Unread
  pub number_alone : Codes.Alone
  pub number_in_a_macro : Codes.InAMacro
  -- `evaluate`
  pub evaluate_tied : Ties.Evaluate
  pub evaluate_one_answer : Evaluations.OneAnswer
  pub evaluate_accepts : Evaluations.Accepts
  pub evaluate_refusals : Evaluations.Refusals
  pub evaluate_valued : Evaluations.Valued
  pub evaluate_by_reading : Evaluations.ByReading
  pub evaluate_accepted : Evaluations.Accepted
  pub evaluate_larger : Evaluations.Larger
  pub evaluate_spent : Evaluations.Spent
  -- the C face, and the program
  pub nos_convert_tied : Ties.NosConvert
  pub nos_convert_date_tied : Ties.NosConvertDate
  pub nos_read_unsigned_tied : Ties.NosReadUnsigned
  pub nos_check_table_tied : Ties.NosCheckTable
  pub nos_build_index_tied : Ties.NosBuildIndex
  pub nos_look_up_tied : Ties.NosLookUp
  pub nos_translate_tied : Ties.NosTranslate
  pub nos_evaluate_tied : Ties.NosEvaluate
  pub program_answer : Ties.ProgramAnswer
  -- every other public function
  pub others_determined : Determined
