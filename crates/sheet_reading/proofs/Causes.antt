-- Why a token, or the end, is refused.
use Rattle.std.proofs.Common.{◌≡◌, ℕ, ◌⊎◌, List, Some, None, inl, inr, ap, ⊎_elim}
use Rattle.terms.specs.Signature.{found}
use Rattle.reading.specs.declared.token.At.{At}
use Rattle.reading.specs.declared.fault.TextFault.{TextFault}
use Rattle.reading.specs.declared.fault.TextFault.TheVariants.{Stray, BadNumber, Unexpected, Undeclared, WrongArity, PastLimit}
use Rattle.reading.specs.Tokens.{Tok, a_name, a_number, an_instrument, a_variable, a_stray}
use Rattle.reading.specs.Reading.{fault_of}
use Rattle.reading.specs.Laws.{Wrong}
use Rattle.reading.specs.declared.fault.SheetFault.{SheetFault}
use Rattle.reading.specs.declared.fault.SheetFault.TheVariants.{Text, Repeated, Headless, Doubled, Unbound}
use Rattle.sheet_reading.specs.Laws.{Behind, symbol, WholeSheet, InSide, front_of_side, BeyondLimit, Miscounted, Twice, InLeft, NotInLeft}
use Rattle.reading.proofs.Faults.{own_fault}

abbrev pub TextCause : List Tok → Wrong → TextFault → Type 0
TextCause before w (Stray at) = Behind before at × ((b : ℕ) × (w ≡ Some (a_stray b)))
TextCause before w (BadNumber at) = Behind before at × ((s : List ℕ) × ((w ≡ Some (a_number s)) ⊎ (w ≡ Some (an_instrument s))))
TextCause before w (Unexpected at) = Behind before at
TextCause before w (Undeclared at) = Behind before at × ((z : InSide before) × (s : List ℕ) × (w ≡ Some (a_name s)) × (found z.sheet.operators s ≡ None))
TextCause before w (WrongArity at) = (z : InSide before) × Miscounted z.sheet.operators (front_of_side z.sheet z.hand) z.side w at
TextCause before w (PastLimit at) = Behind before at × BeyondLimit before × ((k : Tok) × (w ≡ Some k) × (symbol k ≡ 1))

abbrev pub Cause : List Tok → Wrong → SheetFault → Type 0
Cause before w (Text f) = TextCause before w f
Cause before w (Repeated at) = Behind before at × Twice before w
Cause before w (Headless at) = Behind before at × WholeSheet before
Cause before w (Doubled at) = Behind before at × ((x : ℕ) × (w ≡ Some (a_variable x)) × InLeft x before)
Cause before w (Unbound at) = Behind before at × ((x : ℕ) × (w ≡ Some (a_variable x)) × NotInLeft x before)

-- a token that is not allowed
pub not_here_cause : (before : List Tok) (at : At) → Behind before at → (k : Tok) → TextCause before (Some k) (fault_of k at (Unexpected at))
not_here_cause before at p k = own_fault (TextCause before (Some k)) k at (Unexpected at) p (λ s e. (p, (s, ⊎_elim (λ q. inl (ap Some q)) (λ q. inr (ap Some q)) e))) (λ b e. (p, (b, ap Some e)))
