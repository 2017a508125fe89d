-- Why a token is refused in the lines of names and counts.
use Rattle.std.proofs.Common.{◌≡◌, ℕ, ◌≤◌, List, length, Some, sym, refl, subst, inl, arith}
use Rattle.terms.specs.Signature.{Sig, found}
use Rattle.reading.specs.declared.token.At.{At}
use Rattle.reading.specs.declared.heading.Stage.TheVariants.{WantsName}
use Rattle.reading.specs.declared.fault.TextFault.TheVariants.{BadNumber, PastLimit}
use Rattle.reading.specs.declared.fault.SheetFault.{SheetFault}
use Rattle.reading.specs.declared.fault.SheetFault.TheVariants.{Text, Repeated}
use Rattle.reading.specs.Tokens.{Tok, a_name, a_number}
use Rattle.reading.specs.Heading.{Head}
use Rattle.reading.proofs.Heads.{head_tokens, HeadReason, not_allowed, many_names, named_twice, bad_count, HeadGood}
use Rattle.sheet_reading.specs.Laws.{Behind, many_names as past_names}
use Rattle.sheet_reading.proofs.Stands.{names_blanked}
use Rattle.sheet_reading.proofs.Causes.{Cause, not_here_cause}

module _ (at : At) where
  abbrev Causes : Head → Tok → SheetFault → Type 0
  Causes h k f = HeadGood 32 h → Behind (head_tokens h) at → Cause (head_tokens h) (Some k) f

  past_cause : (sig : Sig) (s : List ℕ) → 32 ≤ length sig → Causes (sig, WantsName) (a_name s) (Text (PastLimit at))
  past_cause sig s l g p = (p, past_names sig g.declared (omega (arith, g.few)) (sym (names_blanked sig)), (a_name s, refl, refl))

  twice_cause : (sig : Sig) (s : List ℕ) (i : ℕ) → found sig s ≡ Some i → Causes (sig, WantsName) (a_name s) (Repeated at)
  twice_cause sig s i e g p = (p, record { names = sig; stands = sym (names_blanked sig); name = s; is_name = refl; is_found = (i, e) })

  -- what a cause is of, by what it is equal to
  caused : (h g : Head) (k j : Tok) (f e : SheetFault) → h ≡ g → k ≡ j → f ≡ e → Causes g j e → Causes h k f
  caused h g k j f e p q r c = subst (λ x. Causes x k f) (sym p) (subst (λ x. Causes g x f) (sym q) (subst (Causes g j) (sym r) c))

  pub head_cause : (h : Head) (k : Tok) (f : SheetFault) → HeadReason 32 h k at f → Causes h k f
  head_cause h k f (not_allowed e) = λ g p. subst (Cause (head_tokens h) (Some k)) (sym e) (not_here_cause (head_tokens h) at p k)
  head_cause h k f (many_names sig s p q l e) = caused h (sig, WantsName) k (a_name s) f (Text (PastLimit at)) p q e (past_cause sig s l)
  head_cause h k f (named_twice sig s i p q r e) = caused h (sig, WantsName) k (a_name s) f (Repeated at) p q e (twice_cause sig s i r)
  head_cause h k f (bad_count s q e) = caused h h k (a_number s) f (Text (BadNumber at)) refl q e (λ g p. (p, (s, inl refl)))
