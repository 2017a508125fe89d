-- What reading a ticket is, in the words of the subject.
use Rattle.std.specs.Prelude.{◌≡◌, ℕ, ◌^◌, ◌<◌, ◌≤◌, true, false, ◌⊎◌, List, [], ◌∷◌, ◌++◌, length, take, drop, Some, None, Ok, Err, decimal, Option, Result, ◌≢◌}
use Rattle.std.specs.List.{AllByRecursion}
use Rattle.terms.specs.Term.{Term, Terms, nil, cons, how_many}
use Rattle.terms.specs.Signature.{Sig, op_of, digit, found}
use Rattle.terms.specs.Ticket.{Ticket, Tickets}
use Rattle.terms.specs.Text.{text_of}
use Rattle.reading.specs.declared.token.At.{At}
use Rattle.reading.specs.declared.token.Mark.{Mark}
use Rattle.reading.specs.declared.token.Mark.TheVariants.{Opening, Closing, Comma}
use Rattle.reading.specs.declared.fault.TextFault.{TextFault}
use Rattle.reading.specs.declared.fault.TextFault.TheVariants.{Stray, BadNumber, Unexpected, Undeclared, WrongArity, PastLimit}
use Rattle.reading.specs.Tokens.{Tok, a_name, a_number, an_instrument, a_variable, a_mark, a_stray, tokens, whole, origin}
use Rattle.reading.specs.Numbers.{plain, numbered, instrument_number}
use Rattle.reading.specs.Reading.{ticket_limit, read_ticket}

abbrev pub AllDigits : List ℕ → Type 0
AllDigits ds = AllByRecursion (λ d. digit d ≡ true) ds

-- digits are read as the number whose decimal they are, up to a largest one
abbrev pub DecimalNumbers : Type 0
DecimalNumbers = (most : ℕ) (ds : List ℕ) (n : ℕ) → most < 2 ^ 64 → AllDigits ds → (numbered most ds ≡ Some n → (ds ≡ decimal n) × (n ≤ most)) × ((ds ≡ decimal n) × (n ≤ most) → numbered most ds ≡ Some n)

-- some ticket's text begins with these tokens
abbrev pub Begins : Sig → List Tok → Type 0
Begins sig ks = (t : Term) × Ticket sig t × ((rest : List Tok) × (tokens (text_of sig t) ≡ ks ++ rest))

-- some ticket has just these tokens
abbrev pub WholeTicket : Sig → List Tok → Type 0
WholeTicket sig ks = (t : Term) × Ticket sig t × (tokens (text_of sig t) ≡ ks)

-- what is wrong: a token, or the end of the text
abbrev pub Wrong : Type 0
Wrong = Option Tok

-- the first of some tokens, or their end
abbrev pub first_of : List Tok → Wrong
first_of [] = None
first_of (k ∷ ks) = Some k

-- no ticket goes on, or ends, with it behind these tokens
abbrev pub StuckAt : Sig → List Tok → Wrong → Type 0
StuckAt sig before None = WholeTicket sig before → ⊥
StuckAt sig before (Some k) = Begins sig (before ++ k ∷ []) → ⊥

-- names and instruments begin terms; any other token is of a kind of its own
pub data Kind : Type 0 where
  heads numbers variables strays : Kind
  marks : Mark → Kind

abbrev pub kind : Tok → Kind
kind (a_name s) = heads
kind (a_number s) = numbers
kind (an_instrument s) = heads
kind (a_variable x) = variables
kind (a_mark m) = marks m
kind (a_stray b) = strays

-- some token of the kind may stand behind these tokens
abbrev pub Allowed : Sig → List Tok → Kind → Type 0
Allowed sig before c = (k : Tok) × (kind k ≡ c) × Begins sig (before ++ k ∷ [])

-- the tokens of further arguments, each behind its comma
abbrev pub further_arguments : Sig → Terms → List Tok
further_arguments sig nil = []
further_arguments sig (cons t ts) = a_mark Comma ∷ (tokens (text_of sig t) ++ further_arguments sig ts)

-- the tokens of some arguments and of the parenthesis before them; none for no arguments
abbrev pub arguments_so_far : Sig → Terms → List Tok
arguments_so_far sig nil = []
arguments_so_far sig (cons t ts) = a_mark Opening ∷ (tokens (text_of sig t) ++ further_arguments sig ts)

-- behind these arguments of an operator, the wrong token shows another count than the operator's arity
pub data ShowsCount (arity : ℕ) (ts : Terms) (w : Wrong) : Type 0 where
  needless_opening : ts ≡ nil → arity ≡ 0 → w ≡ Some (a_mark Opening) → ShowsCount arity ts w
  missing_opening : ts ≡ nil → 0 < arity → (w ≢ Some (a_mark Opening)) → ShowsCount arity ts w
  comma_for_closing : 0 < how_many ts → how_many ts ≡ arity → w ≡ Some (a_mark Comma) → ShowsCount arity ts w
  closing_for_comma : 0 < how_many ts → how_many ts < arity → w ≡ Some (a_mark Closing) → ShowsCount arity ts w

-- an operator stands before the wrong token, with the arguments so far, and the token shows a wrong count; the place is the operator's
pub record Miscounted (sig : Sig) (before : List Tok) (w : Wrong) (at : At) : Type 0 where
  pub earlier : List Tok
  pub operator : ℕ
  pub so_far : Terms
  pub declared : operator < length sig
  pub tickets : Tickets sig so_far
  pub stands : before ≡ earlier ++ (a_name (op_of sig operator).name ∷ arguments_so_far sig so_far)
  pub shows : ShowsCount (op_of sig operator).arity so_far w
  pub its_place : at ≡ record { place = length (whole earlier); line = 0 }

-- a number with a needless zero, or an instrument whose digits write no number up to 999,999
abbrev pub IllNumbered : Wrong → Type 0
IllNumbered w = ((s : List ℕ) × (w ≡ Some (a_number s)) × (plain s ≡ false)) ⊎ ((s : List ℕ) × (w ≡ Some (an_instrument s)) × (instrument_number s ≡ None))

-- the end too early, or a token of a kind that is not allowed here
abbrev pub NotAllowed : Sig → List Tok → Wrong → Type 0
NotAllowed sig before None = Unit {0}
NotAllowed sig before (Some k) = Allowed sig before (kind k) → ⊥

-- the place behind these tokens; a ticket's text has one line
abbrev pub Behind : List Tok → At → Type 0
Behind before at = at ≡ record { place = length (whole before); line = 0 }

-- when a fault applies to what is wrong behind these tokens
abbrev pub Applies : Sig → List Tok → Wrong → TextFault → Type 0
Applies sig before w (Stray at) = Behind before at × ((b : ℕ) × (w ≡ Some (a_stray b)))
Applies sig before w (BadNumber at) = Behind before at × IllNumbered w
Applies sig before w (Unexpected at) = Behind before at × NotAllowed sig before w
Applies sig before w (Undeclared at) = Behind before at × Allowed sig before heads × ((s : List ℕ) × (w ≡ Some (a_name s)) × (found sig s ≡ None))
Applies sig before w (WrongArity at) = Miscounted sig before w at
Applies sig before w (PastLimit at) = ⊥

-- the order in which faults go: by their number, but a wrong count goes before 3 and 4
abbrev pub rank : TextFault → ℕ
rank (Stray at) = 1
rank (BadNumber at) = 2
rank (WrongArity at) = 3
rank (Unexpected at) = 4
rank (Undeclared at) = 5
rank (PastLimit at) = 6

-- the first wrong token decides: what stands before it begins a ticket's text, nothing does that goes on with it, and of the faults that apply to it the one that goes first is given
pub record FirstWrong (sig : Sig) (b : List ℕ) (f : TextFault) : Type 0 where
  pub before : ℕ
  pub begins : Begins sig (take before (tokens b))
  pub stuck : StuckAt sig (take before (tokens b)) (first_of (drop before (tokens b)))
  pub applies : Applies sig (take before (tokens b)) (first_of (drop before (tokens b))) f
  pub goes_first : (g : TextFault) → Applies sig (take before (tokens b)) (first_of (drop before (tokens b))) g → rank f ≤ rank g

-- an accepted text is the text of the ticket that is read; a refused one is too long, or has a first wrong token
abbrev pub Explained : Sig → List ℕ → Result Term TextFault → Type 0
Explained sig b (Ok t) = Ticket sig t × (text_of sig t ≡ b) × (length b ≤ ticket_limit)
Explained sig b (Err f) = ((ticket_limit < length b) × (f ≡ PastLimit origin)) ⊎ ((length b ≤ ticket_limit) × FirstWrong sig b f)

pub record TicketLaw (sig : Sig) (b : List ℕ) : Type 0 where
  pub explained : Explained sig b (read_ticket sig b)
  -- and every text of a ticket is accepted, but for its length
  pub accepted : (t : Term) → Ticket sig t → text_of sig t ≡ b → length b ≤ ticket_limit → read_ticket sig b ≡ Ok t
