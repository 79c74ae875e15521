-- Every promise is kept: the one record of them, with a proof for each.
use Rattle.promises.specs.Promises.{Promises}
use Rattle.promises.proofs.Contracts as Contracts
use Rattle.promises.proofs.WorkedExamples.{worked_examples}
use Rattle.promises.proofs.ConversionsKept as Conversions
use Rattle.promises.proofs.DatesKept as Dates
use Rattle.promises.proofs.ReadingsKept as Readings
use Rattle.promises.proofs.TwoTablesKept as TwoTables
use Rattle.promises.proofs.LookupsKept as Lookups
use Rattle.promises.proofs.IndexesKept as Indexes
use Rattle.promises.proofs.TranslationsKept as Translations
use Rattle.promises.proofs.CodesKept as Codes
use Rattle.promises.proofs.EvaluationsKept as Evaluations
use Rattle.promises.proofs.DeterminedKept.{determined}

pub promises : Promises
promises =
    record {
      worked_examples = worked_examples;
      any_input = Contracts.any;
      convert_tied = Contracts.convert;
      convert_one_answer = Conversions.one_answer;
      convert_accepts = Conversions.accepts;
      convert_refusals = Conversions.refusals;
      convert_exact = Conversions.exact;
      convert_offset_and_free = Conversions.offset_and_free;
      convert_bytes = Conversions.bytes;
      convert_x_form = Conversions.x_form;
      convert_terminated = Conversions.terminated;
      convert_characters_alone = Conversions.characters_alone;
      convert_same_characters = Conversions.same_characters;
      convert_reads_back = Conversions.reads_back;
      convert_larger_room = Conversions.larger_room;
      convert_second_ask = Conversions.second_ask;
      date_tied = Contracts.convert_date;
      date_one_answer = Dates.one_answer;
      date_accepts = Dates.accepts;
      date_refusals = Dates.refusals;
      date_exact = Dates.exact;
      date_offset_and_free = Dates.offset_and_free;
      date_bad_field = Dates.bad_field_is;
      date_bytes = Dates.bytes;
      date_larger_room = Dates.larger_room;
      date_second_ask = Dates.second_ask;
      date_need_by_format = Dates.need_by_format;
      date_of_a_day = Dates.of_a_day;
      date_leap_years = Dates.leap_years;
      read_tied = Contracts.read_unsigned;
      read_one_answer = Readings.one_answer;
      read_accepts = Readings.accepts;
      read_refusals = Readings.refusals;
      tables_judged_in_order = TwoTables.in_order;
      farm_first = TwoTables.farm_first;
      house_next = TwoTables.house_next;
      empty_farm = TwoTables.empty_farm;
      read_by_names = TwoTables.read_by_names;
      macro_of_either = TwoTables.macro_of_either;
      one_look_up = TwoTables.one_look_up;
      no_look_up = TwoTables.no_look_up;
      check_tied = Contracts.check_table;
      check_one_answer = Lookups.one_check;
      check_accepts = Lookups.check_accepts;
      check_refusals = Lookups.check_refusals;
      check_over_length = Lookups.over_length;
      check_records = Lookups.records;
      look_up_tied = Contracts.look_up;
      look_up_one_answer = Lookups.one_found;
      look_up_accepts = Lookups.look_up_accepts;
      look_up_refusals = Lookups.look_up_refusals;
      look_up_judges = Lookups.judges;
      look_up_known = Lookups.known;
      look_up_finds = Lookups.finds;
      look_up_hides = Lookups.hides;
      look_up_misses = Lookups.misses;
      look_up_bad_index = Lookups.misfits;
      look_up_refused = Lookups.refused_bare;
      look_up_through = Lookups.through;
      look_up_inside = Lookups.inside;
      look_up_value_tied = Contracts.look_up_value;
      look_up_value_one_part = Lookups.one_part;
      look_up_value_part = Lookups.part;
      names_in_order = Indexes.order;
      one_arrangement = Indexes.one_arrangement;
      build_tied = Contracts.build_index;
      build_one_answer = Indexes.one_answer;
      build_accepts = Indexes.accepts;
      build_refusals = Indexes.refusals;
      build_exact = Indexes.exact;
      build_larger_room = Indexes.larger_room;
      build_second_ask = Indexes.second_ask;
      index_fits = Indexes.fits_exactly;
      built_fits = Indexes.built_fits;
      indexed_by_number = Indexes.by_number;
      search_by_halving = Indexes.by_halving;
      translate_tied = Contracts.translate;
      translate_one_answer = Translations.one_answer;
      translate_accepts = Translations.accepts;
      translate_refusals = Translations.refusals;
      translate_kept = Translations.kept;
      translate_refused = Translations.refused_free;
      translate_bytes = Translations.bytes_left;
      translate_by_reading = Translations.by_reading;
      translate_accepted = Translations.accepted;
      translate_over_length = Translations.over_length_comes;
      translate_bad_index = Translations.misfits;
      translate_through = Translations.through;
      translate_larger = Translations.larger;
      translate_no_room = Translations.no_room_comes;
      translate_need = Translations.need;
      translate_spent = Translations.spent_comes;
      translate_second_ask = Translations.asked_again;
      number_met = Codes.number_met;
      number_unread = Codes.number_unread;
      number_alone = Codes.number_alone;
      number_in_a_macro = Codes.number_in_a_macro;
      evaluate_tied = Contracts.evaluate;
      evaluate_one_answer = Evaluations.one_answer;
      evaluate_accepts = Evaluations.accepts;
      evaluate_refusals = Evaluations.refusals;
      evaluate_valued = Evaluations.value_is;
      evaluate_by_reading = Evaluations.by_reading;
      evaluate_accepted = Evaluations.accepted_when;
      evaluate_larger = Evaluations.larger;
      evaluate_spent = Evaluations.spent_comes;
      nos_convert_tied = Contracts.nos_convert;
      nos_convert_date_tied = Contracts.nos_convert_date;
      nos_read_unsigned_tied = Contracts.nos_read_unsigned;
      nos_check_table_tied = Contracts.nos_check_table;
      nos_build_index_tied = Contracts.nos_build_index;
      nos_look_up_tied = Contracts.nos_look_up;
      nos_translate_tied = Contracts.nos_translate;
      nos_evaluate_tied = Contracts.nos_evaluate;
      program_answer = Contracts.program_answer;
      others_determined = determined;
    }
