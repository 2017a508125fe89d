-- The worked cases hold: each is computed.
use Rattle.std.proofs.Common.{length, refl}
use Rattle.std.proofs.lemmas.Bool.{cond-false, lt-leb}
use Rattle.reading.specs.Heading.{sheet_limit}
use Rattle.sheet_reading.specs.Cases.{Worked}
use Rattle.sheet_reading.specs.Reading.{read_sheet}

pub worked : Worked
unfolding read_sheet sheet_limit
worked = record {
  the_house_sheet = refl;
  no_rules = refl;
  stray = refl;
  base_past_largest = refl;
  factor_past_least = refl;
  needless_zero = refl;
  two_blanks = refl;
  number_for_dash = refl;
  dash_for_number = refl;
  another_word = refl;
  end_too_early = refl;
  empty_rule = refl;
  undeclared = refl;
  missing_opening = refl;
  needless_opening = refl;
  repeated = refl;
  variable_in_front = refl;
  instrument_in_front = refl;
  doubled = refl;
  unbound = refl;
  most_names = refl;
  a_name_more = refl;
  most_rules = refl;
  a_rule_more = refl;
  most_symbols = refl;
  a_symbol_more = refl;
  most_levels = refl;
  a_level_more = refl;
  limit_before_repeated = refl;
  limit_before_headless = refl;
  undeclared_before_limit = refl;
  undeclared_before_headless = refl;
  limit_before_doubled = refl;
  too_long = λ b h. cond-false _ _ _ (lt-leb (length b) sheet_limit h);
}
