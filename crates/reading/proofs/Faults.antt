-- The fault of a token that is refused: its own, or the one that it is refused with.
use Rattle.std.proofs.Common.{◌≡◌, ℕ, ◌⊎◌, List, Some, None, refl, inl, inr}
use Rattle.std.proofs.lemmas.Bool.{cond_both}
use Rattle.reading.specs.declared.token.At.{At}
use Rattle.reading.specs.declared.fault.TextFault.{TextFault}
use Rattle.reading.specs.declared.fault.TextFault.TheVariants.{Stray, BadNumber}
use Rattle.reading.specs.Tokens.{Tok, a_name, a_number, an_instrument, a_variable, a_mark, a_stray}
use Rattle.reading.specs.Numbers.{plain, instrument_number}
use Rattle.reading.specs.Reading.{unless_some, fault_of}

pub own_fault : (P : TextFault → Type 0) (k : Tok) (at : At) (f : TextFault) → P f → ((s : List ℕ) → (k ≡ a_number s) ⊎ (k ≡ an_instrument s) → P (BadNumber at)) → ((b : ℕ) → k ≡ a_stray b → P (Stray at)) → P (fault_of k at f)
own_fault P (a_name s) at f h number stray = h
own_fault P (a_number s) at f h number stray = cond_both (plain s) f (BadNumber at) P (λ _. h) (λ _. number s (inl refl))
own_fault P (an_instrument s) at f h number stray = elim (instrument_number s) as (λ o. P (unless_some o at f)) [ None ↦ number s (inr refl) | Some n ↦ h ]
own_fault P (a_variable x) at f h number stray = h
own_fault P (a_mark m) at f h number stray = h
own_fault P (a_stray b) at f h number stray = stray b refl
