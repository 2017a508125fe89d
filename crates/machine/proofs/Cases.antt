-- The worked cases hold: each is computed.
use Rattle.std.proofs.Common.{refl}
use Rattle.std.specs.Fmt.{digits}
use Rattle.reading.specs.Reading.{read_ticket, ticket_limit}
use Rattle.machine.specs.Cases.{Worked}

pub worked_cases : Worked
unfolding read_ticket ticket_limit digits
worked_cases = record {
  session_answers = refl;
  session_writes = refl;
  six_nodes = refl;
  five_nodes = refl;
  none_allowed = refl;
  show_refused = refl;
  show_stays = refl;
  exact_buffer = refl;
  enter_refused = refl;
  struck_free = refl;
}
