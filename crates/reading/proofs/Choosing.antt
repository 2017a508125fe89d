-- Of the faults that apply, the one that goes first is given.
use Rattle.std.proofs.Common.{◌≡◌, ℕ, ◌<◌, ◌≤◌, true, cond, List, Some, None, Option, sym, refl, ap, ◌∙◌, inl, inr, arith}
use Rattle.std.proofs.lemmas.Bool.{both_ways, cases_lt, cond_both}
use Rattle.terms.specs.Signature.{Sig}
use Rattle.reading.specs.declared.token.At.{At}
use Rattle.reading.specs.declared.fault.TextFault.{TextFault}
use Rattle.reading.specs.declared.fault.TextFault.TheVariants.{Stray, BadNumber, Unexpected, Undeclared, WrongArity, PastLimit}
use Rattle.reading.specs.Tokens.{Tok, a_name, a_number, an_instrument, a_variable, a_mark, a_stray}
use Rattle.reading.specs.Numbers.{plain, instrument_number}
use Rattle.reading.specs.Reading.{unless_some, fault_of}
use Rattle.reading.specs.Laws.{Wrong, Behind, IllNumbered, Applies, Miscounted, rank}
use Rattle.reading.proofs.Equal.{same_some}
use Rattle.std.proofs.lemmas.Option.{none-some}

-- the fault applies, and none that applies goes before it
abbrev pub Chosen : Sig → List Tok → Wrong → TextFault → Type 0
Chosen sig ks w f = Applies sig ks w f × ((g : TextFault) → Applies sig ks w g → rank f ≤ rank g)

-- and this one among the faults that are not of the token by itself
pub record Late (sig : Sig) (ks : List Tok) (w : Wrong) (f : TextFault) : Type 0 where
  pub due : Applies sig ks w f
  pub least : (g : TextFault) → 3 ≤ rank g → Applies sig ks w g → rank f ≤ rank g

-- a wrong count goes before the others
pub late_count : {sig : Sig} {ks : List Tok} {w : Wrong} {a : At} → Miscounted sig ks w a → Late sig ks w (WrongArity a)
late_count c = record { due = c; least = λ g h _. h }

-- no stray byte
abbrev NoStray : Wrong → Type 0
NoStray w = (b : ℕ) → w ≡ Some (a_stray b) → ⊥

module _ {sig : Sig} (ks : List Tok) (w : Wrong) where
  -- a fault of rank n goes first, unless one of the faults before it applies
  goes_first : (n : ℕ) → (1 < n → NoStray w) → (2 < n → IllNumbered w → ⊥) → ((g : TextFault) → 3 ≤ rank g → Applies sig ks w g → n ≤ rank g) → (g : TextFault) → Applies sig ks w g → n ≤ rank g
  goes_first n s i l (Stray at) h = elim (cases_lt 1 n) as (λ _. n ≤ 1) [ inl j ↦ absurd (s j h.1.0 h.1.1) | inr j ↦ j ]
  goes_first n s i l (BadNumber at) h = elim (cases_lt 2 n) as (λ _. n ≤ 2) [ inl j ↦ absurd (i j h.1) | inr j ↦ j ]
  goes_first n s i l (Unexpected at) h = l (Unexpected at) (omega arith) h
  goes_first n s i l (Undeclared at) h = l (Undeclared at) (omega arith) h
  goes_first n s i l (WrongArity at) h = l (WrongArity at) (omega arith) h
  goes_first n s i l (PastLimit at) h = absurd h

  first_late : (f : TextFault) → NoStray w → (IllNumbered w → ⊥) → Late sig ks w f → Chosen sig ks w f
  first_late f s i z = (z.due, goes_first (rank f) (λ _. s) (λ _. i) z.least)

  first_number : (at : At) → Behind ks at → NoStray w → IllNumbered w → Chosen sig ks w (BadNumber at)
  first_number at p s i = ((p, i), goes_first 2 (λ _. s) (λ j. absurd (omega arith)) (λ g j _. omega arith))

  first_stray : (at : At) (b : ℕ) → Behind ks at → w ≡ Some (a_stray b) → Chosen sig ks w (Stray at)
  first_stray at b p e = ((p, (b, e)), goes_first 1 (λ j. absurd (omega arith)) (λ j. absurd (omega arith)) (λ g j _. omega arith))

-- at the end of the text no token has a fault of its own
no_ill : IllNumbered None → ⊥
no_ill (inl i) = none-some _ i.1
no_ill (inr i) = none-some _ i.1

pub end_first : {sig : Sig} (ks : List Tok) (f : TextFault) → Late sig ks None f → Chosen sig ks None f
end_first ks f z = first_late ks None f (λ b e. none-some _ e) no_ill z

-- which tokens may have a fault of their own
abbrev sort : Tok → ℕ
sort (a_name s) = 0
sort (a_number s) = 1
sort (an_instrument s) = 2
sort (a_variable x) = 0
sort (a_mark m) = 0
sort (a_stray b) = 3

no_stray : (k : Tok) → sort k < 3 → NoStray (Some k)
no_stray k h b e = omega (arith, ap sort (same_some e))

not_ill : (k : Tok) → sort k ≡ 0 → IllNumbered (Some k) → ⊥
not_ill k h (inl i) = omega (arith, ap sort (same_some i.1))
not_ill k h (inr i) = omega (arith, ap sort (same_some i.1))

number_ill : (s : List ℕ) → plain s ≡ true → IllNumbered (Some (a_number s)) → ⊥
number_ill s p (inl i) = let e = i.1 in let q : i.0 ≡ s = cc in both_ways (plain s) (ap plain (sym q) ∙ i.2) p
number_ill s p (inr i) = omega (arith, ap sort (same_some i.1))

instrument_ill : (s : List ℕ) (n : ℕ) → instrument_number s ≡ Some n → IllNumbered (Some (an_instrument s)) → ⊥
instrument_ill s n p (inl i) = omega (arith, ap sort (same_some i.1))
instrument_ill s n p (inr i) = let e = i.1 in let q : i.0 ≡ s = cc in none-some _ (sym i.2 ∙ ap instrument_number q ∙ p)

-- a token's own fault goes before the one that is due
module _ {sig : Sig} (ks : List Tok) (at : At) (p : Behind ks at) (f : TextFault) where
  own_number : (s : List ℕ) → Late sig ks (Some (a_number s)) f → Chosen sig ks (Some (a_number s)) (cond (plain s) f (BadNumber at))
  own_number s z = cond_both (plain s) f (BadNumber at) (Chosen sig ks (Some (a_number s)))
      (λ e. first_late ks _ f (no_stray (a_number s) (omega arith)) (number_ill s e) z)
      (λ e. first_number ks _ at p (no_stray (a_number s) (omega arith)) (inl (s, refl, e)))

  pub bad_instrument : (s : List ℕ) → instrument_number s ≡ None → Chosen sig ks (Some (an_instrument s)) (BadNumber at)
  bad_instrument s e = first_number ks _ at p (no_stray (an_instrument s) (omega arith)) (inr (s, refl, e))

  own_instrument : (s : List ℕ) (o : Option ℕ) → instrument_number s ≡ o → Late sig ks (Some (an_instrument s)) f → Chosen sig ks (Some (an_instrument s)) (unless_some o at f)
  own_instrument s None e z = bad_instrument s e
  own_instrument s (Some n) e z = first_late ks _ f (no_stray (an_instrument s) (omega arith)) (instrument_ill s n e) z

  pub own_first : (k : Tok) → Late sig ks (Some k) f → Chosen sig ks (Some k) (fault_of k at f)
  own_first (a_name s) z = first_late ks _ f (no_stray (a_name s) (omega arith)) (not_ill (a_name s) refl) z
  own_first (a_number s) z = own_number s z
  own_first (an_instrument s) z = own_instrument s (instrument_number s) refl z
  own_first (a_variable x) z = first_late ks _ f (no_stray (a_variable x) (omega arith)) (not_ill (a_variable x) refl) z
  own_first (a_mark m) z = first_late ks _ f (no_stray (a_mark m) (omega arith)) (not_ill (a_mark m) refl) z
  own_first (a_stray b) z = first_stray ks _ at b p refl
