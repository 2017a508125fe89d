-- What reading a ticket answers.
use Rattle.std.specs.Prelude.{◌≡◌, length, Ok, Err, Result}
use Rattle.terms.specs.declared.layout.Layout.{Layout}
use Rattle.terms.specs.Term.{Term, symbols}
use Rattle.terms.specs.View.{Stands}
use Rattle.terms.specs.Nodes.{node_answers}
use Rattle.terms.specs.Layout.{in_use, LaysOut}
use Rattle.reading.specs.declared.fault.TextFault.{TextFault}

-- the term that the definition gives, laid out in reading order, so that it stands at place 0 with as many nodes as symbols; or the fault that the definition gives
pub record LaidTicket (l : Layout 2048) (o : Result Term TextFault) : Type 0 where
  pub ticket : Term
  pub given : o ≡ Ok ticket
  pub in_order : LaysOut l ticket
  pub stands : Stands (node_answers (in_use l)) 0 ticket
  pub counted : length (in_use l) ≡ symbols ticket

abbrev pub Reads : Result (Layout 2048) TextFault → Result Term TextFault → Type 0
Reads (Ok l) o = LaidTicket l o
Reads (Err e) o = o ≡ Err e
