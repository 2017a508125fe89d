-- The worked cases.
use Rattle.std.proofs.Common.{length, refl}
use Rattle.std.proofs.lemmas.Bool.{cond-false, lt-leb}
use Rattle.reading.specs.Reading.{ticket_limit, read_ticket}
use Rattle.reading.specs.Cases.{Worked}

pub worked : Worked
unfolding read_ticket ticket_limit
worked = record {
  largest_instrument = refl;
  nested = refl;
  instrument_past_largest = refl;
  needless_zero = refl;
  no_digits = refl;
  empty = refl;
  variable_in_ticket = refl;
  end_too_early = refl;
  no_arguments_in_parentheses = refl;
  opening_behind_instrument = refl;
  line_end = refl;
  thirteenth_byte = refl;
  undeclared = refl;
  stray = refl;
  missing_opening = refl;
  needless_opening = refl;
  comma_for_closing = refl;
  closing_for_comma = refl;
  stray_before_unexpected = refl;
  stray_before_count = refl;
  number_before_unexpected = refl;
  number_before_count = refl;
  count_before_unexpected = refl;
  count_before_undeclared = refl;
  unexpected_before_undeclared = refl;
  too_long = λ b h. cond-false _ _ _ (lt-leb (length b) ticket_limit h);
}
