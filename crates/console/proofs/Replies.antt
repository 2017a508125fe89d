-- The answer to a ticket.
use Rattle.std.proofs.Common.{◌≡◌, ℕ, ◌-◌, ◌≤◌, List, length, take, drop, Ok, Err, IsUtf8, sym, ap, ◌∙◌, subst, arith}
use Rattle.std.proofs.lemmas.List.{take_at}
use Rattle.std.proofs.lemmas.Str.{IsUtf8-from_ascii}
use Rattle.terms.specs.declared.layout.Layout.{Layout}
use Rattle.terms.specs.Term.{Term, symbols}
use Rattle.terms.specs.Signature.{Sig, Declared}
use Rattle.terms.specs.Ticket.{Ticket}
use Rattle.terms.specs.Text.{text_of}
use Rattle.terms.specs.View.{Answers, Stands}
use Rattle.terms.proofs.Standing.{one_at_a_place}
use Rattle.terms.proofs.Ascii.{ascii_text}
use Rattle.reading.specs.Reading.{ticket_limit, read_ticket}
use Rattle.reading.specs.Laws.{Explained, TicketLaw}
use Rattle.reader.specs.Ticket.{LaidTicket}
use Rattle.console.specs.Replies.{Showable}
use Rattle.traversal.specs.declared.unwritten.Unwritten.{Unwritten}
use Rattle.traversal.specs.declared.unwritten.Unwritten.TheVariants.{NoTerm, TooShort}
use Rattle.traversal.specs.Walks.{most_symbols, Written}

-- a ticket that was read can be walked
pub few_symbols : (n : ℕ) → n ≤ 2048 → n ≤ most_symbols
unfolding most_symbols
few_symbols n h = omega arith

module _ (sig : Sig) (v : Answers) (before after : List ℕ) (t : Term) (stands : Stands v 0 t) where
  -- a term that stands there and fits the buffer is written
  pub written : symbols t ≤ most_symbols → length (text_of sig t) ≤ length before → (e : Unwritten) → Written sig v 0 before after (Err e) → ⊥
  written small fits NoTerm w = w.0 t (stands, small)
  written small fits TooShort w =
      let (u, s, short) = w.0 in
      omega (arith, short, ap (λ x. length (text_of sig x)) (one_at_a_place v 0 u t s.0 stands))

  -- what is written is its text
  pub front : (n : ℕ) → Written sig v 0 before after (Ok n) → take (n - 0) after ≡ text_of sig t
  front n (u, s, long, within, e) =
      let same : text_of sig u ≡ text_of sig t = ap (text_of sig) (one_at_a_place v 0 u t s.0 stands) in
      ap (take (n - 0)) e ∙ take_at (text_of sig u) (drop n before) (n - 0) (omega arith) ∙ same

pub utf8_text : (sig : Sig) → Declared sig → (t : Term) → Ticket sig t → (bs : List ℕ) → bs ≡ text_of sig t → IsUtf8 bs
utf8_text sig d t h bs e = subst IsUtf8 (sym e) (IsUtf8-from_ascii (text_of sig t) (ascii_text d t h))

-- a ticket that was read fits the buffer
pub showable : (sig : Sig) (b : List ℕ) (l : Layout 2048) (buffer : List ℕ) → LaidTicket l (read_ticket sig b) → TicketLaw sig b → length buffer ≡ 4096 → Showable sig l buffer
unfolding ticket_limit
showable sig b l buffer r law e =
    let told : Explained sig b (Ok r.ticket) = subst (Explained sig b) r.given law.explained in
    record {
      ticket = r.ticket;
      is_ticket = told.0;
      stands = r.stands;
      counted = r.counted;
      fits = omega (arith, e, ap length told.1, told.2);
    }
