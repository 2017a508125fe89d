-- The tokens read so far begin some side; and a whole side is one.
use Rattle.std.proofs.Common.{◌≡◌, ℕ, zero, suc, ◌≤◌, List, [], ◌∷◌, ◌++◌, length, None, Option, sym, refl, ◌∙◌, append_assoc, append-nil, arith, subst}
use Rattle.terms.specs.Term.{Term, instrument, apply, nil}
use Rattle.terms.specs.Signature.{Sig, op_of, Declared}
use Rattle.terms.specs.Text.{text_of}
use Rattle.reading.specs.declared.token.At.{At}
use Rattle.reading.specs.Tokens.{Tok, tokens, lines, whole}
use Rattle.reading.specs.Reading.{Context, top, within, State, wants, opens, has, named}
use Rattle.reading.proofs.States.{name_of, state_tokens}
use Rattle.sheet_reading.specs.Sheet.{Limits, SideWithin}
use Rattle.sheet_reading.specs.Sides.{Hand, on_left, on_right}
use Rattle.sheet_reading.specs.Laws.{count}
use Rattle.sheet_reading.proofs.SideFacts.{HandShaped}
use Rattle.sheet_reading.proofs.SideStates.{Begun, Good}
use Rattle.sheet_reading.proofs.Counting.{count_symbols, count_variable}
use Rattle.sheet_reading.proofs.SideSteps.{front_within, GoesOn, goes_named, goes_instrument, goes_opened, goes_closed, goes_continued}
use Rattle.reading.proofs.Completing.{Fillable, starts_has, starts_within, starts_opens}

module _ {sig : Sig} (good : Declared sig) (before : List Tok) where
  -- a whole side

  pub whole_side : (d : Hand) (t : Term) (b : Option At) → Begun sig before d (has t b top) → HandShaped sig d t
  whole_side on_left t b g = record { is_term = g.shaped.0; operator_first = g.fronted; linear = λ x. omega (arith, g.may_stand x, count_variable good x t g.shaped.0) }
  whole_side (on_right l) t b g = record { is_term = g.shaped.0; bound = λ x h. g.may_stand x (omega (arith, count_variable good x t g.shaped.0)) }

  pub ended : (m : Limits) (d : Hand) (t : Term) (b : Option At) → Good sig m before d (has t b top) → HandShaped sig d t × SideWithin m t
  ended m d t b g = (whole_side d t b g.begun, (omega (arith, g.few, count_symbols good t g.begun.shaped.0), omega (arith, g.low.0)))

  module _ (d : Hand) where
    -- the tokens begin some side
    abbrev Completes : List Tok → Type 0
    Completes ks = (t : Term) × HandShaped sig d t × ((rest : List Tok) × (tokens (text_of sig t) ≡ ks ++ rest))

    side_fillable : Fillable sig (Begun sig before d) Completes
    side_fillable = record {
      front = λ ks k c. (c.0, c.1, (k ∷ c.2.0, c.2.1 ∙ append_assoc ks (k ∷ []) c.2.0));
      whole = λ t b g. (t, whole_side d t b g, ([], sym (append-nil (tokens (text_of sig t)))));
      with_one = λ f a ts n k g. (goes_instrument good before d (within f a ts n k) 1 g (omega arith) (front_within d (instrument 1) None f a ts n k)).0;
      opened = λ f a n k g. (goes_opened good before d f a n k g).0;
      continued = λ t b f a ts n k g. (goes_continued good before d t b f a ts n k g).0;
      closed = λ t b f a ts k g. (let h = (goes_closed good before d t b f a ts k g).0 in
          (h, h.shaped.0));
    }

    completes_has : (k : Context) (t : Term) (b : Option At) → Begun sig before d (has t b k) → Completes (state_tokens sig (has t b k))
    completes_has = starts_has good (Begun sig before d) Completes side_fillable

    completes_opens : (f : ℕ) (a : At) (n : ℕ) (k : Context) → Begun sig before d (opens f a n k) → Completes (state_tokens sig (opens f a n k))
    completes_opens = starts_opens good (Begun sig before d) Completes side_fillable

    -- where those of the next state do
    back : (s u : State) (k : Tok) → GoesOn good before d s k u → Completes (state_tokens sig u) → Completes (state_tokens sig s)
    back s u k h c = side_fillable.front (state_tokens sig s) k (subst Completes h.1 c)

    completes_named : (f n : ℕ) (a : At) (k : Context) → Begun sig before d (named f n a k) → Completes (state_tokens sig (named f n a k))
    completes_named f zero a k g = completes_has k (apply f nil) _ g
    completes_named f (suc n) a k g = completes_opens f a n k g

  -- a left side begins with the first operator
  completes_top : (d : Hand) → 1 ≤ length sig → Begun sig before d (wants top) → Completes d []
  completes_top on_left some g =
      let at : At = record { place = length (whole (before ++ [])); line = count lines (before ++ []) } in
      let n : ℕ = (op_of sig 0).arity in
      let h = goes_named good before on_left top 0 n at g refl some refl in
      back on_left (wants top) (named 0 n at top) (name_of sig 0) h (completes_named on_left 0 n at top h.0)
  completes_top (on_right l) some g =
      let h = goes_instrument good before (on_right l) top 1 g (omega arith) tt in
      back (on_right l) (wants top) (has (instrument 1) None top) _ h (completes_has (on_right l) top (instrument 1) None h.0)

  pub completes : (d : Hand) (s : State) → 1 ≤ length sig → Begun sig before d s → Completes d (state_tokens sig s)
  completes d (wants top) some g = completes_top d some g
  completes d (wants (within f a ts n k)) some g = starts_within good (Begun sig before d) (Completes d) (side_fillable d) f a ts n k g
  completes d (opens f a n k) some g = completes_opens d f a n k g
  completes d (has t b k) some g = completes_has d k t b g
