-- What is said of a side and of its reading.
use Rattle.std.proofs.Common.{◌≡◌, ℕ, ◌+◌, ◌≤◌, ◌⊎◌, List, Some, None, Result}
use Rattle.terms.specs.Term.{Term}
use Rattle.terms.specs.Rule.{OperatorFirst}
use Rattle.terms.specs.Signature.{Sig, found}
use Rattle.terms.specs.Ticket.{TermOf}
use Rattle.terms.specs.Substitution.{occurrences}
use Rattle.reading.specs.declared.token.At.{At}
use Rattle.reading.specs.declared.token.Mark.TheVariants.{Opening, Closing}
use Rattle.reading.specs.declared.fault.TextFault.{TextFault}
use Rattle.reading.specs.declared.fault.TextFault.TheVariants.{Stray, BadNumber, Unexpected, Undeclared, WrongArity, PastLimit}
use Rattle.reading.specs.Tokens.{Tok, a_name, a_number, an_instrument, a_variable, a_stray}
use Rattle.reading.specs.Reading.{top, State, wants}
use Rattle.reading.proofs.Running.{reach_with}
use Rattle.reading.proofs.States.{state_tokens}
use Rattle.reading.specs.declared.fault.SheetFault.{SheetFault}
use Rattle.reading.specs.declared.fault.SheetFault.TheVariants.{Text, Repeated, Headless, Doubled, Unbound}
use Rattle.sheet_reading.specs.Sheet.{Limits}
use Rattle.sheet_reading.specs.Sides.{Hand, on_left, on_right, side_step}
use Rattle.sheet_reading.specs.Laws.{count, symbol, mark, the_variable, Miscounted}

-- a side, its size aside: the left one, or the right one beside a left one
pub record LeftShaped (sig : Sig) (t : Term) : Type 0 where
  pub is_term : TermOf sig t
  pub operator_first : OperatorFirst t
  pub linear : (x : ℕ) → occurrences x t ≤ 1

pub record RightShaped (sig : Sig) (l t : Term) : Type 0 where
  pub is_term : TermOf sig t
  pub bound : (x : ℕ) → 1 ≤ occurrences x t → 1 ≤ occurrences x l

abbrev pub HandShaped : Sig → Hand → Term → Type 0
HandShaped sig on_left t = LeftShaped sig t
HandShaped sig (on_right l) t = RightShaped sig l t

-- the state behind some tokens of a side
abbrev pub side_reach : Limits → Sig → ℕ → Hand → State → At → List Tok → Result State SheetFault
side_reach m sig rules d = reach_with (side_step m sig rules d)

-- why a token of a side is refused at a place, behind the tokens before the side and those of the side so far
abbrev pub TextReason : Limits → Sig → ℕ → List Tok → List Tok → At → Tok → TextFault → Type 0
TextReason m sig rules before side at k (Stray a) = (a ≡ at) × ((b : ℕ) × (k ≡ a_stray b))
TextReason m sig rules before side at k (BadNumber a) = (a ≡ at) × ((s : List ℕ) × ((k ≡ a_number s) ⊎ (k ≡ an_instrument s)))
TextReason m sig rules before side at k (Unexpected a) = a ≡ at
TextReason m sig rules before side at k (Undeclared a) = (a ≡ at) × ((s : List ℕ) × (k ≡ a_name s) × (found sig s ≡ None))
TextReason m sig rules before side at k (WrongArity a) = Miscounted sig before side (Some k) a
TextReason m sig rules before side at k (PastLimit a) = (a ≡ at) × (symbol k ≡ 1) × ((m.rules ≤ rules) ⊎ ((count symbol side ≡ m.symbols) ⊎ (count (mark Opening) side ≡ count (mark Closing) side + m.levels)))

abbrev pub SideReason : Limits → Sig → ℕ → Hand → List Tok → State → At → Tok → SheetFault → Type 0
SideReason m sig rules d before s at k (Text f) = TextReason m sig rules before (state_tokens sig s) at k f
SideReason m sig rules d before s at k (Repeated a) = ⊥
SideReason m sig rules d before s at k (Headless a) = (a ≡ at) × (d ≡ on_left) × (s ≡ wants top)
SideReason m sig rules d before s at k (Doubled a) = (a ≡ at) × (d ≡ on_left) × ((x : ℕ) × (k ≡ a_variable x) × (1 ≤ count (the_variable x) (state_tokens sig s)))
SideReason m sig rules d before s at k (Unbound a) = (a ≡ at) × ((l : Term) × (x : ℕ) × (d ≡ on_right l) × (k ≡ a_variable x) × (occurrences x l ≡ 0))

-- larger limits
pub record More (m n : Limits) : Type 0 where
  pub operators : m.operators ≤ n.operators
  pub rules : m.rules ≤ n.rules
  pub symbols : m.symbols ≤ n.symbols
  pub levels : m.levels ≤ n.levels

-- a fault that is of a limit
abbrev pub OfLimit : SheetFault → Type 0
OfLimit (Text (Stray a)) = ⊥
OfLimit (Text (BadNumber a)) = ⊥
OfLimit (Text (Unexpected a)) = ⊥
OfLimit (Text (Undeclared a)) = ⊥
OfLimit (Text (WrongArity a)) = ⊥
OfLimit (Text (PastLimit a)) = Unit {0}
OfLimit (Repeated a) = ⊥
OfLimit (Headless a) = ⊥
OfLimit (Doubled a) = ⊥
OfLimit (Unbound a) = ⊥
