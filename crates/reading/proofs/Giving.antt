-- The fault that a state gives goes first of those that apply.
use Rattle.std.proofs.Common.{◌≡◌, ℕ, zero, suc, false, List, Some, None, Ok, Err, Option, Result, refl, ap, subst, arith}
use Rattle.terms.specs.Term.{Term}
use Rattle.terms.specs.Signature.{Sig, found, Declared}
use Rattle.reading.specs.declared.token.At.{At}
use Rattle.reading.specs.declared.token.Mark.{Mark}
use Rattle.reading.specs.declared.token.Mark.TheVariants.{Opening, Closing, Comma, Equals, Dash, Blank, LineEnd}
use Rattle.reading.specs.declared.fault.TextFault.{TextFault}
use Rattle.reading.specs.declared.fault.TextFault.TheVariants.{Unexpected, Undeclared, WrongArity}
use Rattle.reading.specs.Tokens.{Tok, a_name, a_number, an_instrument, a_variable, a_mark, a_stray, origin}
use Rattle.reading.specs.Numbers.{instrument_number}
use Rattle.reading.specs.Reading.{Context, top, within, State, wants, opens, has, fault_of, with_name, with_number, closed, continued, needless, on_opens_mark, on_has_mark, step, ending}
use Rattle.reading.specs.Laws.{Wrong, kind, Miscounted, Behind}
use Rattle.reading.proofs.Running.{reach, Refuses}
use Rattle.reading.proofs.States.{state_tokens, Good}
use Rattle.reading.proofs.Completing.{begins_one}
use Rattle.reading.proofs.Taking.{takes}
use Rattle.reading.proofs.Miscounting.{miscount, miscounted_opens, miscounted_opening, miscounted_closing, miscounted_comma}
use Rattle.reading.proofs.Refusing.{not_allowed, late_unexpected, late_undeclared}
use Rattle.reading.proofs.Choosing.{Chosen, late_count, end_first, bad_instrument, own_first}

-- a state that is reached at a place
pub record There (sig : Sig) (s : State) (at : At) : Type 0 where
  pub is_good : Good sig s
  pub reached : reach sig (wants top) origin (state_tokens sig s) ≡ Ok s
  pub place : Behind (state_tokens sig s) at

-- 1 for '('
abbrev opening_mark : Mark → ℕ
opening_mark Opening = 1
opening_mark Closing = 0
opening_mark Comma = 0
opening_mark Equals = 0
opening_mark Dash = 0
opening_mark Blank = 0
opening_mark LineEnd = 0

abbrev opening : Wrong → ℕ
opening None = 0
opening (Some (a_name s)) = 0
opening (Some (a_number s)) = 0
opening (Some (an_instrument s)) = 0
opening (Some (a_variable x)) = 0
opening (Some (a_mark m)) = opening_mark m
opening (Some (a_stray b)) = 0

-- a refusal gives the fault that goes first
abbrev Gives : {A : Type 0} → Sig → State → Wrong → Result A TextFault → Type 0
Gives sig s w (Ok u) = Unit {0}
Gives sig s w (Err f) = Chosen sig (state_tokens sig s) w f

module _ {sig : Sig} (good : Declared sig) where
  unexpected : (s : State) (at : At) (k : Tok) → There sig s at → takes s (kind k) ≡ false → miscount s (Some k) ≡ None → Chosen sig (state_tokens sig s) (Some k) (fault_of k at (Unexpected at))
  unexpected s at k h n c =
      let ks : List Tok = state_tokens sig s in
      own_first ks at h.place (Unexpected at) k (late_unexpected good ks s h.reached (Some k) at h.place (not_allowed good ks s h.reached k n) c)

  unexpected_end : (s : State) (at : At) → There sig s at → miscount s None ≡ None → Chosen sig (state_tokens sig s) None (Unexpected at)
  unexpected_end s at h c = end_first (state_tokens sig s) (Unexpected at) (late_unexpected good (state_tokens sig s) s h.reached None at h.place tt c)

  miscounted : (s : State) (at a : At) (k : Tok) → There sig s at → Miscounted sig (state_tokens sig s) (Some k) a → Chosen sig (state_tokens sig s) (Some k) (fault_of k at (WrongArity a))
  miscounted s at a k h c = own_first (state_tokens sig s) at h.place (WrongArity a) k (late_count c)

  -- where a term may begin

  gives_name : (k : Context) (at : At) (s : List ℕ) (o : Option ℕ) → found sig s ≡ o → There sig (wants k) at → Gives sig (wants k) (Some (a_name s)) (with_name sig o at k)
  gives_name k at s None e h =
      let ks : List Tok = state_tokens sig (wants k) in
      own_first ks at h.place (Undeclared at) (a_name s) (late_undeclared good ks (wants k) h.reached s at h.place (_, refl, begins_one good k h.is_good) e refl)
  gives_name k at s (Some f) e h = tt

  gives_instrument : (k : Context) (at : At) (s : List ℕ) (o : Option ℕ) → instrument_number s ≡ o → There sig (wants k) at → Gives sig (wants k) (Some (an_instrument s)) (with_number o at k)
  gives_instrument k at s None e h = bad_instrument (state_tokens sig (wants k)) at h.place (Unexpected at) s e
  gives_instrument k at s (Some n) e h = tt

  -- behind an operator that takes arguments

  count_opens : (f : ℕ) (a : At) (n : ℕ) (k : Context) (at : At) (w : Wrong) → There sig (opens f a n k) at → opening w ≡ 0 → Miscounted sig (state_tokens sig (opens f a n k)) w a
  count_opens f a n k at w h z = miscounted_opens good f a n k w h.is_good.0 (λ e. omega (arith, ap opening e))

  gives_opens : (f : ℕ) (a : At) (n : ℕ) (k : Context) (at : At) (j : Tok) → There sig (opens f a n k) at → opening (Some j) ≡ 0 → Chosen sig (state_tokens sig (opens f a n k)) (Some j) (fault_of j at (WrongArity a))
  gives_opens f a n k at j h z = miscounted (opens f a n k) at a j h (count_opens f a n k at (Some j) h z)

  mark_opens : (j : Mark) (f : ℕ) (a : At) (n : ℕ) (k : Context) (at : At) → There sig (opens f a n k) at → Gives sig (opens f a n k) (Some (a_mark j)) (on_opens_mark j f a n k)
  mark_opens Opening f a n k at h = tt
  mark_opens Closing f a n k at h = gives_opens f a n k at (a_mark Closing) h refl
  mark_opens Comma f a n k at h = gives_opens f a n k at (a_mark Comma) h refl
  mark_opens Equals f a n k at h = gives_opens f a n k at (a_mark Equals) h refl
  mark_opens Dash f a n k at h = gives_opens f a n k at (a_mark Dash) h refl
  mark_opens Blank f a n k at h = gives_opens f a n k at (a_mark Blank) h refl
  mark_opens LineEnd f a n k at h = gives_opens f a n k at (a_mark LineEnd) h refl

  -- behind a term

  gives_opening : (t : Term) (m : Option At) (k : Context) (at : At) → There sig (has t m k) at → Chosen sig (state_tokens sig (has t m k)) (Some (a_mark Opening)) (needless m at)
  gives_opening t None k at h = unexpected (has t None k) at (a_mark Opening) h refl refl
  gives_opening t (Some a) k at h = miscounted (has t (Some a) k) at a (a_mark Opening) h (miscounted_opening good t a k h.is_good)

  gives_closed : (t : Term) (m : Option At) (k : Context) (at : At) → There sig (has t m k) at → Gives sig (has t m k) (Some (a_mark Closing)) (closed t k at)
  gives_closed t m top at h = unexpected (has t m top) at (a_mark Closing) h refl refl
  gives_closed t m (within f a ts zero k) at h = tt
  gives_closed t m (within f a ts (suc n) k) at h = miscounted (has t m (within f a ts (suc n) k)) at a (a_mark Closing) h (miscounted_closing good t m f a ts n k h.is_good)

  gives_continued : (t : Term) (m : Option At) (k : Context) (at : At) → There sig (has t m k) at → Gives sig (has t m k) (Some (a_mark Comma)) (continued t k at)
  gives_continued t m top at h = unexpected (has t m top) at (a_mark Comma) h refl refl
  gives_continued t m (within f a ts zero k) at h = miscounted (has t m (within f a ts zero k)) at a (a_mark Comma) h (miscounted_comma good t m f a ts k h.is_good)
  gives_continued t m (within f a ts (suc n) k) at h = tt

  mark_has : (j : Mark) (t : Term) (m : Option At) (k : Context) (at : At) → There sig (has t m k) at → Gives sig (has t m k) (Some (a_mark j)) (on_has_mark j at t m k)
  mark_has Opening t m k at h = gives_opening t m k at h
  mark_has Closing t m k at h = gives_closed t m k at h
  mark_has Comma t m k at h = gives_continued t m k at h
  mark_has Equals t m k at h = unexpected (has t m k) at (a_mark Equals) h refl refl
  mark_has Dash t m k at h = unexpected (has t m k) at (a_mark Dash) h refl refl
  mark_has Blank t m k at h = unexpected (has t m k) at (a_mark Blank) h refl refl
  mark_has LineEnd t m k at h = unexpected (has t m k) at (a_mark LineEnd) h refl refl

  -- any token, or the end

  gives_step : (s : State) (at : At) (k : Tok) → There sig s at → Gives sig s (Some k) (step sig s at k)
  gives_step (wants k) at (a_name s) h = gives_name k at s (found sig s) refl h
  gives_step (wants k) at (a_number s) h = unexpected (wants k) at (a_number s) h refl refl
  gives_step (wants k) at (an_instrument s) h = gives_instrument k at s (instrument_number s) refl h
  gives_step (wants k) at (a_variable x) h = unexpected (wants k) at (a_variable x) h refl refl
  gives_step (wants k) at (a_mark m) h = unexpected (wants k) at (a_mark m) h refl refl
  gives_step (wants k) at (a_stray b) h = unexpected (wants k) at (a_stray b) h refl refl
  gives_step (opens f a n k) at (a_name s) h = gives_opens f a n k at (a_name s) h refl
  gives_step (opens f a n k) at (a_number s) h = gives_opens f a n k at (a_number s) h refl
  gives_step (opens f a n k) at (an_instrument s) h = gives_opens f a n k at (an_instrument s) h refl
  gives_step (opens f a n k) at (a_variable x) h = gives_opens f a n k at (a_variable x) h refl
  gives_step (opens f a n k) at (a_mark m) h = mark_opens m f a n k at h
  gives_step (opens f a n k) at (a_stray b) h = gives_opens f a n k at (a_stray b) h refl
  gives_step (has t m k) at (a_name s) h = unexpected (has t m k) at (a_name s) h refl refl
  gives_step (has t m k) at (a_number s) h = unexpected (has t m k) at (a_number s) h refl refl
  gives_step (has t m k) at (an_instrument s) h = unexpected (has t m k) at (an_instrument s) h refl refl
  gives_step (has t m k) at (a_variable x) h = unexpected (has t m k) at (a_variable x) h refl refl
  gives_step (has t m k) at (a_mark j) h = mark_has j t m k at h
  gives_step (has t m k) at (a_stray b) h = unexpected (has t m k) at (a_stray b) h refl refl

  gives_end : (s : State) (at : At) → There sig s at → Gives sig s None (ending s at)
  gives_end (wants k) at h = unexpected_end (wants k) at h refl
  gives_end (opens f a n k) at h = end_first (state_tokens sig (opens f a n k)) (WrongArity a) (late_count (count_opens f a n k at None h refl))
  gives_end (has t m top) at h = tt
  gives_end (has t m (within f a ts n k)) at h = unexpected_end (has t m (within f a ts n k)) at h refl

  pub gives : (s : State) (at : At) (w : Wrong) (f : TextFault) → There sig s at → Refuses (step sig) ending s at w f → Chosen sig (state_tokens sig s) w f
  gives s at None f h e = subst (Gives sig s None) e (gives_end s at h)
  gives s at (Some k) f h e = subst (Gives sig s (Some k)) e (gives_step s at k h)
