-- What the program answers to a line.
use Rattle.std.specs.Prelude.{◌≡◌, ℕ, ◌≤◌, List, ◌++◌, length, Ok, Err, codes, decimal, Result}
use Rattle.terms.specs.Term.{Term, symbols}
use Rattle.terms.specs.declared.layout.Layout.{Layout}
use Rattle.terms.specs.Signature.{Sig}
use Rattle.terms.specs.Ticket.{Ticket as ATicket}
use Rattle.terms.specs.View.{Stands}
use Rattle.terms.specs.Nodes.{node_answers}
use Rattle.terms.specs.Layout.{in_use}
use Rattle.terms.specs.Text.{text_of}
use Rattle.reading.specs.declared.fault.TextFault.{TextFault}
use Rattle.reading.specs.declared.fault.TextFault.TheVariants.{PastLimit}
use Rattle.reading.specs.Tokens.{origin}
use Rattle.reading.specs.Refusals.{text_refusal, refusal_text}
use Rattle.reading.specs.declared.refusal.Refusal.{Refusal}
use Rattle.reading.specs.Reading.{read_ticket}
use Rattle.console.specs.declared.reply.TicketLine.{TicketLine}
use Rattle.console.specs.Texts.{Seen, whole_text, overlong_text}

-- the line of a ticket of so many symbols and of this text
abbrev pub ticket_line : ℕ → List ℕ → List ℕ
ticket_line n text = codes "ticket " ++ (decimal n ++ (codes " " ++ text))

-- a ticket's line as it is printed
abbrev pub ticket_text : TicketLine → List ℕ
ticket_text t = ticket_line t.symbols t.text.now

-- a reply as it is printed
abbrev pub reply_text : Result TicketLine Refusal → List ℕ
reply_text (Ok t) = ticket_text t
reply_text (Err r) = refusal_text r

abbrev pub outcome_text : Sig → Result Term TextFault → List ℕ
outcome_text sig (Ok t) = ticket_line (symbols t) (text_of sig t)
outcome_text sig (Err f) = refusal_text (text_refusal f)

-- the answer to a line: the ticket's symbols and text, or the refusal; a line that is too long is refused as a text that is too long
abbrev pub answer_text : Sig → Seen → List ℕ
answer_text sig (whole_text b) = outcome_text sig (read_ticket sig b)
answer_text sig overlong_text = refusal_text (text_refusal (PastLimit origin))

-- a ticket in nodes whose text a buffer can take
pub record Showable (sig : Sig) (l : Layout 2048) (buffer : List ℕ) : Type 0 where
  pub ticket : Term
  pub is_ticket : ATicket sig ticket
  pub stands : Stands (node_answers (in_use l)) 0 ticket
  pub counted : length (in_use l) ≡ symbols ticket
  pub fits : length (text_of sig ticket) ≤ length buffer

abbrev pub Shows : Sig → Layout 2048 → TicketLine → Type 0
Shows sig l r = (t : Term) → Stands (node_answers (in_use l)) 0 t → length (in_use l) ≡ symbols t → ticket_text r ≡ outcome_text sig (Ok t)
