-- Larger limits change no answer but a refusal for a limit.
use Rattle.std.proofs.Common.{◌≡◌, ℕ, ◌≤◌, Bool, true, false, cond, leb, List, [], ◌∷◌, length, Ok, Err, Result, sym, refl, ◌∙◌, subst, arith}
use Rattle.std.proofs.lemmas.Bool.{cond_both, cond-false, lt-leb, leb-false}
use Rattle.terms.specs.Rule.{Rule}
use Rattle.terms.specs.Signature.{Sig, found}
use Rattle.reading.specs.declared.token.At.{At}
use Rattle.reading.specs.declared.heading.Stage.TheVariants.{WantsName, HasName, WantsCount, HasCount, Done}
use Rattle.reading.specs.declared.fault.TextFault.TheVariants.{PastLimit}
use Rattle.reading.specs.Tokens.{Tok, a_name, a_number, an_instrument, a_variable, a_mark, a_stray, past}
use Rattle.reading.specs.Reading.{top, within, State, wants, opens, has}
use Rattle.reading.specs.Heading.{Head, Outcome, named_once, wants_name, head_step}
use Rattle.reading.specs.declared.fault.SheetFault.{SheetFault}
use Rattle.reading.specs.declared.fault.SheetFault.TheVariants.{Text}
use Rattle.sheet_reading.specs.Values.{Grid}
use Rattle.sheet_reading.specs.Sheet.{Limits}
use Rattle.sheet_reading.specs.Sides.{Hand, side_step}
use Rattle.sheet_reading.specs.Reading.{Stand, in_heading, wants_value, has_value, has_word, in_rule, ends_side, in_side, on_rule, sheet_step}
use Rattle.sheet_reading.proofs.SideFacts.{More}
use Rattle.sheet_reading.proofs.SideLimits.{Stays, same, stays_on, stays}
use Rattle.sheet_reading.proofs.Stands.{reach}
use Rattle.reading.proofs.Running.{reach_first, then_reach}

stays_cond : {A : Type 0} (b : Bool) (x r q : Result A SheetFault) → Stays r q → Stays (cond b x r) (cond b x q)
stays_cond true x r q h = same x
stays_cond false x r q h = h

-- names

stays_name : (m n : ℕ) (sig : Sig) (at : At) (x : Outcome) → m ≤ n → Stays (cond (leb m (length sig)) (Err (Text (PastLimit at))) x) (cond (leb n (length sig)) (Err (Text (PastLimit at))) x)
stays_name m n sig at x h = cond_both (leb m (length sig)) (Err (Text (PastLimit at))) x (λ r. Stays r (cond (leb n (length sig)) (Err (Text (PastLimit at))) x))
    (λ _ free. absurd (free tt))
    (λ e. subst (Stays x) (sym (cond-false _ _ _ (lt-leb n (length sig) (omega (arith, leb-false m (length sig) e))))) (same x))

stays_wants_name : (m n : ℕ) (sig : Sig) (at : At) (k : Tok) → m ≤ n → Stays (wants_name m k sig at) (wants_name n k sig at)
stays_wants_name m n sig at (a_name s) h = stays_name m n sig at (named_once (found sig s) sig s at) h
stays_wants_name m n sig at (a_number s) h = λ _. refl
stays_wants_name m n sig at (an_instrument s) h = λ _. refl
stays_wants_name m n sig at (a_variable x) h = λ _. refl
stays_wants_name m n sig at (a_mark j) h = λ _. refl
stays_wants_name m n sig at (a_stray b) h = λ _. refl

stays_head : (m n : ℕ) (g : Head) (at : At) (k : Tok) → m ≤ n → Stays (head_step m g at k) (head_step n g at k)
stays_head m n (sig, WantsName) at k h = stays_wants_name m n sig at k h
stays_head m n (sig, HasName) at k h = same _
stays_head m n (sig, WantsCount f) at k h = same _
stays_head m n (sig, HasCount f) at k h = same _
stays_head m n (sig, Done) at k h = λ _. refl

module _ (m n : Limits) (more : More m n) where
  -- rules

  module _ (sig : Sig) (grid : Grid) (rules : List Rule) (d : Hand) (at : At) (k : Tok) where
    stays_in_side : (s : State) → Stays (in_side m sig grid rules d s k at) (in_side n sig grid rules d s k at)
    stays_in_side s = stays_on (side_step m sig (length rules) d s at k) _ _ _ (stays m n more (length rules) sig d s at k) (λ u. refl)

    stays_rule : (s : State) → Stays (on_rule m sig grid rules d s k at) (on_rule n sig grid rules d s k at)
    stays_rule (wants c) = stays_in_side (wants c)
    stays_rule (opens f a j c) = stays_in_side (opens f a j c)
    stays_rule (has t b top) = stays_cond (ends_side d k) _ _ _ (stays_in_side (has t b top))
    stays_rule (has t b (within f a ts j c)) = stays_in_side (has t b (within f a ts j c))

  pub sheet_stays : (s : Stand) (at : At) (k : Tok) → Stays (sheet_step m s at k) (sheet_step n s at k)
  sheet_stays (in_heading g) at k = stays_on (head_step m.operators g at k) _ _ _ (stays_head m.operators n.operators g at k more.operators) (λ u. refl)
  sheet_stays (wants_value sig grid vs) at k = same _
  sheet_stays (has_value sig grid vs) at k = same _
  sheet_stays (has_word sig grid) at k = same _
  sheet_stays (in_rule sig grid rules d s) at k = stays_rule sig grid rules d at k s

  -- what is reached is reached within larger limits
  pub reached : (s : Stand) (at : At) (ks : List Tok) (u : Stand) → reach m s at ks ≡ Ok u → reach n s at ks ≡ Ok u
  reached s at [] u e = e
  reached s at (k ∷ ks) u e =
      let (v, q, r) = reach_first (sheet_step m) s at k ks u e in
      then_reach (sheet_step n) s at k ks v (subst (λ x. Stays x (sheet_step n s at k)) q (sheet_stays s at k)) ∙ reached v (past at k) ks u r
