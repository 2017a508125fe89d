-- A side's tokens are read as that side.
use Rattle.std.proofs.Common.{◌≡◌, ℕ, suc, ◌+◌, ◌<◌, ◌≤◌, true, ◌∷◌, None, Ok, Option, Result, refl, ap, ◌∙◌, arith, decimal, length}
use native.Mathlib.Nat.{le-max_left, le-max_right}
use Rattle.std.proofs.lemmas.Bool.{cond-true, cond-false, and_from, lt-ltb, le-ltb, eq-eqb}
use Rattle.terms.specs.Term.{Term, variable, instrument, apply, Terms, nil, cons, symbols, symbols_in}
use Rattle.terms.specs.Rule.{levels, levels_in, OperatorFirst}
use Rattle.terms.specs.Signature.{Sig, op_of, Declared}
use Rattle.terms.specs.Ticket.{TermOf}
use Rattle.terms.specs.Text.{text_of}
use Rattle.terms.specs.Substitution.{occurrences, occurrences_in}
use Rattle.reading.specs.declared.token.At.{At}
use Rattle.reading.specs.Tokens.{Tok, a_name, tokens, an_instrument, a_variable}
use Rattle.reading.specs.Reading.{Context, top, within, State, wants, has, and_then, named, with_number, chain}
use Rattle.reading.proofs.Digits.{numbered_decimal}
use Rattle.reading.proofs.Back.{name_step, Readable, reads_term}
use Rattle.reading.specs.declared.fault.SheetFault.{SheetFault}
use Rattle.sheet_reading.specs.Sheet.{Limits, SideWithin}
use Rattle.sheet_reading.specs.Sides.{Hand, on_left, on_right, symbols_before, depth, occurrences_before, room, within_room, in_text, fronted, variable_on, side_step}
use Rattle.sheet_reading.proofs.SideFacts.{HandShaped, side_reach}
use Rattle.sheet_reading.proofs.SideStates.{MayStand, Fronted}
use Rattle.sheet_reading.proofs.SideSteps.{front_within}

symbols_then : (ts : Terms) (t : Term) → symbols_in (and_then ts t) ≡ symbols_in ts + symbols t
symbols_then nil t = omega arith
symbols_then (cons u ts) t = omega (arith, symbols_then ts t)

occurrences_then : (x : ℕ) (ts : Terms) (t : Term) → occurrences_in x (and_then ts t) ≡ occurrences_in x ts + occurrences x t
occurrences_then x nil t = omega arith
occurrences_then x (cons u ts) t = omega (arith, occurrences_then x ts t)

fewer : (d : Hand) (x i n : ℕ) → i ≤ n → MayStand d x n → MayStand d x i
fewer on_left x i n l h = omega arith
fewer (on_right t) x i n l h = λ p. h (omega arith)

-- a term may come in a context: within limits, and with variables that may stand there
pub record Fits (m : Limits) (d : Hand) (t : Term) (k : Context) : Type 0 where
  pub few : symbols t + symbols_before k ≤ m.symbols
  pub low : levels t + depth k ≤ m.levels
  pub may_stand : (x : ℕ) → MayStand d x (occurrences x t + occurrences_before x k)
  pub in_front : Fronted d (has t None k)

-- a row of arguments may come behind other ones
pub record RowFits (m : Limits) (d : Hand) (ts us : Terms) (k : Context) : Type 0 where
  pub few : symbols_in ts + suc (symbols_in us) + symbols_before k ≤ m.symbols
  pub low : levels_in ts + suc (depth k) ≤ m.levels
  pub may_stand : (x : ℕ) → MayStand d x (occurrences_in x ts + occurrences_in x us + occurrences_before x k)

fits_arguments : (m : Limits) (d : Hand) (f : ℕ) (ts : Terms) (k : Context) → Fits m d (apply f ts) k → RowFits m d ts nil k
fits_arguments m d f ts k h = record { few = omega (arith, h.few); low = omega (arith, h.low); may_stand = λ x. fewer d x _ _ (omega arith) (h.may_stand x) }

fits_first : (m : Limits) (d : Hand) (t : Term) (ts us : Terms) (f : ℕ) (a : At) (n : ℕ) (k : Context) → RowFits m d (cons t ts) us k → Fits m d t (within f a us n k)
fits_first m d t ts us f a n k h = record {
  few = omega (arith, h.few);
  low = omega (arith, h.low, le-max_left (levels t) (levels_in ts));
  may_stand = λ x. fewer d x _ _ (omega arith) (h.may_stand x);
  in_front = front_within d t None f a us n k;
}

fits_rest : (m : Limits) (d : Hand) (t : Term) (ts us : Terms) (k : Context) → RowFits m d (cons t ts) us k → RowFits m d ts (and_then us t) k
fits_rest m d t ts us k h = record {
  few = omega (arith, h.few, symbols_then us t);
  low = omega (arith, h.low, le-max_right (levels t) (levels_in ts));
  may_stand = λ x. fewer d x _ _ (omega (arith, occurrences_then x us t)) (h.may_stand x);
}

-- what comes is not refused

has_room : (m : Limits) (rules : ℕ) (k : Context) → rules < m.rules → symbols_before k < m.symbols → depth k < m.levels → room m rules k ≡ true
has_room m rules k p q r = and_from _ _ (lt-ltb rules m.rules p) (and_from _ _ (lt-ltb (symbols_before k) m.symbols q) (lt-ltb (depth k) m.levels r))

passes_front : (d : Hand) (t : Term) (k : Context) (at : At) (u : State) → (OperatorFirst t → ⊥) → Fronted d (has t None k) → fronted d k at u ≡ Ok u
passes_front on_left t top at u n h = absurd (n h)
passes_front on_left t (within f a ts i k) at u n h = refl
passes_front (on_right l) t k at u n h = refl

itself : (x : ℕ) → occurrences x (variable x) ≡ 1
itself x = cond-true _ _ _ (eq-eqb x x refl)

variable_stands : (d : Hand) (x : ℕ) (k : Context) (at : At) → MayStand d x (occurrences x (variable x) + occurrences_before x k) → variable_on d x k at ≡ Ok (has (variable x) None k)
variable_stands on_left x k at h = cond-false _ _ _ (le-ltb 0 (occurrences_before x k) (omega (arith, itself x)))
variable_stands (on_right l) x k at h = cond-true _ _ _ (lt-ltb 0 (occurrences x l) (h (omega (arith, itself x))))

module _ {sig : Sig} (good : Declared sig) (m : Limits) (rules : ℕ) (room_for_rule : rules < m.rules) (d : Hand) where
  abbrev next : State → At → Tok → Result State SheetFault
  next = side_step m sig rules d

  -- one symbol more
  fits_room : (t : Term) (k : Context) → Fits m d t k → 1 ≤ symbols t → 1 ≤ levels t → room m rules k ≡ true
  fits_room t k h p q = has_room m rules k room_for_rule (omega (arith, h.few)) (omega (arith, h.low))

  variable_on_side : (x : ℕ) (k : Context) (at : At) → Fits m d (variable x) k → next (wants k) at (a_variable x) ≡ Ok (has (variable x) None k)
  variable_on_side x k at h =
      cond-true _ _ _ (fits_room (variable x) k h (omega arith) (omega arith))
      ∙ ap (λ q. chain q (λ _. variable_on d x k at)) (passes_front d (variable x) k at (wants k) (λ z. z) h.in_front) ∙ variable_stands d x k at (h.may_stand x)

  instrument_on_side : (n : ℕ) (k : Context) (at : At) → n ≤ 999999 → Fits m d (instrument n) k → next (wants k) at (an_instrument (35 ∷ decimal n)) ≡ Ok (has (instrument n) None k)
  instrument_on_side n k at l h =
      ap (λ o. chain (in_text (with_number o at k)) (λ u. within_room m rules k at (fronted d k at u))) (numbered_decimal 999999 n (omega arith) l)
      ∙ cond-true _ _ _ (fits_room (instrument n) k h (omega arith) (omega arith)) ∙ passes_front d (instrument n) k at (has (instrument n) None k) (λ z. z) h.in_front

  name_on_side : (f : ℕ) (ts : Terms) (k : Context) (at : At) → f < length sig → Fits m d (apply f ts) k → next (wants k) at (a_name (op_of sig f).name) ≡ Ok (named f (op_of sig f).arity at k)
  name_on_side f ts k at l h = ap (λ q. chain (in_text q) (λ u. within_room m rules k at (Ok u))) (name_step good f l k at) ∙ cond-true _ _ _ (fits_room (apply f ts) k h (omega arith) (omega arith))

  side_readable : Readable sig next (Fits m d) (RowFits m d)
  side_readable = record {
    arguments = fits_arguments m d;
    first = fits_first m d;
    others = fits_rest m d;
    on_variable = variable_on_side;
    on_instrument = instrument_on_side;
    on_name = name_on_side;
    on_opening = λ f a n k at. refl;
    on_comma = λ t b f a us n k at. refl;
    on_closing = λ t b f a us k at. refl;
  }

  -- a side fits where it begins
  fits_side : (t : Term) (d : Hand) → HandShaped sig d t → SideWithin m t → Fits m d t top × TermOf sig t
  fits_side t on_left h w = (record { few = omega arith; low = omega arith; may_stand = λ x. omega (arith, h.linear x); in_front = h.operator_first }, h.is_term)
  fits_side t (on_right l) h w = (record { few = omega arith; low = omega arith; may_stand = λ x p. h.bound x (omega arith); in_front = tt }, h.is_term)

  pub back : (t : Term) (at : At) → HandShaped sig d t → SideWithin m t → (b : Option At) × (side_reach m sig rules d (wants top) at (tokens (text_of sig t)) ≡ Ok (has t b top))
  back t at h w = let (r, i) = fits_side t d h w in reads_term good next (Fits m d) (RowFits m d) side_readable t i top at r
