-- How a side goes on, its size aside.
use Rattle.std.proofs.Common.{◌≡◌, ℕ, zero, suc, ◌<◌, ◌≤◌, List, [], ◌∷◌, ◌++◌, length, Some, None, decimal, Option, refl, ap, subst, arith}
use Rattle.terms.specs.Term.{Term, instrument, apply, Terms, nil}
use Rattle.terms.specs.Signature.{Sig, op_of, Declared}
use Rattle.terms.specs.Ticket.{TermOf}
use Rattle.reading.specs.declared.token.At.{At}
use Rattle.reading.specs.declared.token.Mark.TheVariants.{Opening, Closing, Comma}
use Rattle.reading.specs.Tokens.{Tok, an_instrument, a_mark}
use Rattle.reading.specs.Reading.{Context, top, within, State, wants, opens, has, and_then, named}
use Rattle.reading.proofs.States.{name_of, stack_tokens, state_tokens, frame_next, frame_full}
use Rattle.sheet_reading.specs.Sides.{Hand, on_left, on_right}
use Rattle.sheet_reading.specs.Laws.{count, the_variable, Behind}
use Rattle.reading.proofs.Growing.{name_alone, tokens_number, tokens_opened, tokens_closed, tokens_continued}
use Rattle.sheet_reading.proofs.SideStates.{StateShaped, terms_then, MayStand, Fronted, Begun}
use Rattle.sheet_reading.proofs.Counting.{count_then}

-- where an operator stands in front, or no whole side is read

pub front_apply : (d : Hand) (f : ℕ) (ts : Terms) (b : Option At) (k : Context) → Fronted d (has (apply f ts) b k)
front_apply on_left f ts b top = tt
front_apply on_left f ts b (within g a us n k) = tt
front_apply (on_right l) f ts b k = tt

pub front_wants : (d : Hand) (k : Context) → Fronted d (wants k)
front_wants on_left k = tt
front_wants (on_right l) k = tt

pub front_opens : (d : Hand) (f : ℕ) (a : At) (n : ℕ) (k : Context) → Fronted d (opens f a n k)
front_opens on_left f a n k = tt
front_opens (on_right l) f a n k = tt

pub front_within : (d : Hand) (t : Term) (b : Option At) (f : ℕ) (a : At) (ts : Terms) (n : ℕ) (k : Context) → Fronted d (has t b (within f a ts n k))
front_within on_left t b f a ts n k = tt
front_within (on_right l) t b f a ts n k = tt

module _ {sig : Sig} (good : Declared sig) (before : List Tok) (d : Hand) where
  -- one token leads from a state to another
  abbrev pub GoesOn : State → Tok → State → Type 0
  GoesOn s k u = Begun sig before d u × (state_tokens sig u ≡ state_tokens sig s ++ (k ∷ []))

  -- one that is no variable
  goes_on : (s u : State) (k : Tok) → Begun sig before d s → state_tokens sig u ≡ state_tokens sig s ++ (k ∷ []) → ((x : ℕ) → the_variable x k ≡ 0) → StateShaped sig before u → Fronted d u → GoesOn s k u
  goes_on s u k b e z g h = (
    record {
      shaped = g;
      may_stand = λ x. subst (MayStand d x) (omega (arith, ap (count (the_variable x)) e, count_then (the_variable x) (state_tokens sig s) k, z x)) (b.may_stand x);
      fronted = h;
    },
    e,
  )

  pub goes_named : (k : Context) (f n : ℕ) (at : At) → Begun sig before d (wants k) → Behind (before ++ stack_tokens sig k) at → f < length sig → n ≡ (op_of sig f).arity → GoesOn (wants k) (name_of sig f) (named f n at k)
  goes_named k f zero at g p h e =
      goes_on (wants k) (has (apply f nil) (Some at) k) (name_of sig f) g (ap (λ l. stack_tokens sig k ++ l) (name_alone good f h e)) (λ x. refl)
      ((h, e, tt), g.shaped, (f, refl, p)) (front_apply d f nil (Some at) k)
  goes_named k f (suc n) at g p h e =
      goes_on (wants k) (opens f at n k) (name_of sig f) g refl (λ x. refl) (record { declared = h; counted = omega arith; terms = tt; placed = p }, g.shaped) (front_opens d f at n k)

  pub goes_instrument : (k : Context) (n : ℕ) → Begun sig before d (wants k) → n ≤ 999999 → Fronted d (has (instrument n) None k) → GoesOn (wants k) (an_instrument (35 ∷ decimal n)) (has (instrument n) None k)
  goes_instrument k n g h j = goes_on (wants k) (has (instrument n) None k) (an_instrument (35 ∷ decimal n)) g (tokens_number good k n h) (λ x. refl) (h, g.shaped, tt) j

  pub goes_opened : (f : ℕ) (a : At) (n : ℕ) (k : Context) → Begun sig before d (opens f a n k) → GoesOn (opens f a n k) (a_mark Opening) (wants (within f a nil n k))
  goes_opened f a n k g = goes_on (opens f a n k) (wants (within f a nil n k)) (a_mark Opening) g (tokens_opened good f a n k) (λ x. refl) g.shaped (front_wants d (within f a nil n k))

  pub goes_closed : (t : Term) (b : Option At) (f : ℕ) (a : At) (ts : Terms) (k : Context) → Begun sig before d (has t b (within f a ts zero k)) → GoesOn (has t b (within f a ts zero k)) (a_mark Closing) (has (apply f (and_then ts t)) None k)
  goes_closed t b f a ts k g =
      let (h, j, q) = g.shaped in
      let v : TermOf sig (apply f (and_then ts t)) = frame_full t j.0 (terms_then sig ts t j.0.terms h) in
      goes_on (has t b (within f a ts zero k)) (has (apply f (and_then ts t)) None k) (a_mark Closing) g (tokens_closed good f a ts t b k v) (λ x. refl) (v, j.1, tt) (front_apply d f (and_then ts t) None k)

  pub goes_continued : (t : Term) (b : Option At) (f : ℕ) (a : At) (ts : Terms) (n : ℕ) (k : Context) → Begun sig before d (has t b (within f a ts (suc n) k)) → GoesOn (has t b (within f a ts (suc n) k)) (a_mark Comma) (wants (within f a (and_then ts t) n k))
  goes_continued t b f a ts n k g =
      let (h, j, q) = g.shaped in
      let w : Context = within f a (and_then ts t) n k in
      goes_on (has t b (within f a ts (suc n) k)) (wants w) (a_mark Comma) g (tokens_continued good f a ts t b n k) (λ x. refl) (frame_next t j.0 (terms_then sig ts t j.0.terms h), j.1) (front_wants d w)
