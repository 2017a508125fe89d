-- When a token shows a wrong count of arguments.
use Rattle.std.proofs.Common.{◌≡◌, ℕ, zero, suc, ◌-◌, ◌<◌, List, ◌∷◌, ◌++◌, length, Some, None, Ok, Option, Result, sym, refl, ap, ◌∙◌, subst, arith}
use Rattle.terms.specs.Term.{Term, apply, Terms, nil, cons, how_many}
use Rattle.terms.specs.Signature.{Sig, op_of, Declared}
use Rattle.terms.specs.Ticket.{Ticket, Tickets}
use Rattle.terms.specs.Text.{text_of}
use Rattle.reading.specs.declared.token.At.{At}
use Rattle.reading.specs.declared.token.Mark.{Mark}
use Rattle.reading.specs.declared.token.Mark.TheVariants.{Opening, Closing, Comma, Equals, Dash, Blank, LineEnd}
use Rattle.reading.specs.declared.fault.TextFault.{TextFault}
use Rattle.reading.specs.Tokens.{Tok, a_name, a_number, an_instrument, a_variable, a_mark, a_stray, tokens, past, origin}
use Rattle.reading.specs.Reading.{Context, top, within, State, wants, opens, has, and_then, named, step}
use Rattle.reading.specs.Laws.{Wrong, ShowsCount, needless_opening, missing_opening, comma_for_closing, closing_for_comma, Miscounted, arguments_so_far}
use Rattle.reading.proofs.Growing.{name_alone, tokens_arguments, shows_closing, shows_comma}
use Rattle.reading.proofs.Equal.{not_both, same_ok}
use Rattle.reading.proofs.Running.{reach, passed, reach_split, reach_first}
use Rattle.reading.proofs.Back.{ComesTo, name_step, leads_arguments}
use Rattle.reading.proofs.States.{name_of, stack_tokens, state_tokens, tickets_then, Frame, Good}

-- the place of the inmost operator, if an argument is missing
abbrev too_few : Context → Option At
too_few top = None
too_few (within f a ts zero k) = None
too_few (within f a ts (suc n) k) = Some a

-- and if none is
abbrev too_many : Context → Option At
too_many top = None
too_many (within f a ts zero k) = Some a
too_many (within f a ts (suc n) k) = None

abbrev mark_count : Mark → Option At → Context → Option At
mark_count Opening m k = m
mark_count Closing m k = too_few k
mark_count Comma m k = too_many k
mark_count Equals m k = None
mark_count Dash m k = None
mark_count Blank m k = None
mark_count LineEnd m k = None

abbrev has_count : Wrong → Option At → Context → Option At
has_count None m k = None
has_count (Some (a_name s)) m k = None
has_count (Some (a_number s)) m k = None
has_count (Some (an_instrument s)) m k = None
has_count (Some (a_variable x)) m k = None
has_count (Some (a_mark j)) m k = mark_count j m k
has_count (Some (a_stray b)) m k = None

-- the operator whose count a token, or the end, shows to be wrong
abbrev pub miscount : State → Wrong → Option At
miscount (wants k) w = None
miscount (opens f a n k) w = Some a
miscount (has t m k) w = has_count w m k

abbrev pub Counted : State → Wrong → Type 0
Counted s w = (a : At) × (miscount s w ≡ Some a)

pub no_terms : (t : Term) (ts : Terms) → cons t ts ≡ nil → ⊥
no_terms t ts e = omega (arith, ap how_many e)

-- what holds of the state behind some tokens holds of this one
pub counted_there : (v s : State) (w x : Wrong) (r : Result State TextFault) → Counted v x → r ≡ Ok v → r ≡ Ok s → w ≡ x → Counted s w
counted_there v s w x r c p q e = subst (λ y. Counted y w) (same_ok (sym p ∙ q)) (subst (Counted v) (sym e) c)

-- and what holds behind any arguments
pub counted_behind : (f : ℕ) (a : At) (j : ℕ) (k : Context) (ts : Terms) (s : State) (w x : Wrong) (r : Result State TextFault)
    → ((us : Terms) (u : Term) (m : Option At) → Counted (has u m (within f a us j k)) x) → ComesTo r f a j k ts → r ≡ Ok s → w ≡ x → Counted s w
counted_behind f a j k ts s w x r c h e q = let (us, u, m, z, p) = h in counted_there (has u m (within f a us j k)) s w x r (c us u m) p e q

module _ {sig : Sig} (good : Declared sig) where
  -- behind an operator of n arguments and some of them
  shown_count : (f n : ℕ) (ts : Terms) (w : Wrong) (a : At) (k : Context) (at : At) (s : State) → Tickets sig ts → ShowsCount n ts w → reach sig (named f n a k) at (arguments_so_far sig ts) ≡ Ok s → Counted s w
  shown_count f zero nil w a k at s h (needless_opening e z q) r = counted_there (has (apply f nil) (Some a) k) s w (Some (a_mark Opening)) _ (a, refl) refl r q
  shown_count f (suc n) nil w a k at s h (needless_opening e z q) r = absurd (omega arith)
  shown_count f zero nil w a k at s h (missing_opening e z q) r = absurd (omega arith)
  shown_count f (suc n) nil w a k at s h (missing_opening e z q) r = counted_there (opens f a n k) s w w _ (a, refl) refl r refl
  shown_count f n nil w a k at s h (comma_for_closing l z q) r = absurd (omega arith)
  shown_count f n nil w a k at s h (closing_for_comma l z q) r = absurd (omega arith)
  shown_count f n (cons t ts) w a k at s h (needless_opening e z q) r = absurd (no_terms t ts e)
  shown_count f n (cons t ts) w a k at s h (missing_opening e z q) r = absurd (no_terms t ts e)
  shown_count f zero (cons t ts) w a k at s h (comma_for_closing l z q) r = absurd (omega arith)
  shown_count f (suc n) (cons t ts) w a k at s h (comma_for_closing l z q) r =
      counted_behind f a 0 k (cons t ts) s w (Some (a_mark Comma)) _ (λ us u m. (a, refl)) (leads_arguments good t ts h f a n 0 k at (omega arith)) r q
  shown_count f zero (cons t ts) w a k at s h (closing_for_comma l z q) r = absurd (omega arith)
  shown_count f (suc n) (cons t ts) w a k at s h (closing_for_comma l z q) r =
      counted_behind f a (suc (n - how_many ts - 1)) k (cons t ts) s w (Some (a_mark Closing)) _ (λ us u m. (a, refl)) (leads_arguments good t ts h f a n (suc (n - how_many ts - 1)) k at (omega arith)) r q

  -- only where a term may begin is a name accepted
  named_there : (f : ℕ) → f < length sig → (s u : State) (at : At) → step sig s at (name_of sig f) ≡ Ok u → (k : Context) × (u ≡ named f (op_of sig f).arity at k)
  named_there f h (wants k) u at e = (k, same_ok (sym e ∙ name_step good f h k at))
  named_there f h (opens g a n k) u at e = not_both (sym e)
  named_there f h (has t m k) u at e = not_both (sym e)

  -- a wrong count shows in the state
  pub miscounted_shows : (ks : List Tok) (w : Wrong) (a : At) (s : State) → Miscounted sig ks w a → reach sig (wants top) origin ks ≡ Ok s → (b : At) × (miscount s w ≡ Some b)
  miscounted_shows ks w a s c e =
      let f : ℕ = c.operator in
      let ls : List Tok = arguments_so_far sig c.so_far in
      let (v, p, q) = reach_split (step sig) (wants top) origin c.earlier (name_of sig f ∷ ls) s (ap (reach sig (wants top) origin) (sym c.stands) ∙ e) in
      let (u, r, z) = reach_first (step sig) v (passed origin c.earlier) (name_of sig f) ls s q in
      let (k, n) = named_there f c.declared v u (passed origin c.earlier) r in
      shown_count f (op_of sig f).arity c.so_far w (passed origin c.earlier) k (past (passed origin c.earlier) (name_of sig f)) s c.tickets c.shows
      (subst (λ x. reach sig x (past (passed origin c.earlier) (name_of sig f)) ls ≡ Ok s) n z)

  -- and where the state shows one, there is one

  pub miscounted_opens : (f : ℕ) (a : At) (n : ℕ) (k : Context) (w : Wrong) → Frame sig f a nil n (stack_tokens sig k) → (w ≡ Some (a_mark Opening) → ⊥) → Miscounted sig (state_tokens sig (opens f a n k)) w a
  miscounted_opens f a n k w g h =
      record { earlier = stack_tokens sig k; operator = f; so_far = nil; declared = g.declared; tickets = tt; stands = refl; shows = missing_opening refl (omega (arith, g.counted)) h; its_place = g.placed }

  miscounted_within : (t : Term) (m : Option At) (f : ℕ) (a : At) (ts : Terms) (n : ℕ) (k : Context) (w : Wrong) → Frame sig f a ts n (stack_tokens sig k) → Ticket sig t → ShowsCount (op_of sig f).arity (and_then ts t) w → Miscounted sig (state_tokens sig (has t m (within f a ts n k))) w a
  miscounted_within t m f a ts n k w g h c =
      record { earlier = stack_tokens sig k; operator = f; so_far = and_then ts t; declared = g.declared; tickets = tickets_then sig ts t g.terms h; stands = tokens_arguments sig f a ts t m n k; shows = c; its_place = g.placed }

  pub miscounted_opening : (t : Term) (a : At) (k : Context) → Good sig (has t (Some a) k) → Miscounted sig (state_tokens sig (has t (Some a) k)) (Some (a_mark Opening)) a
  miscounted_opening t a k g =
      let (f, e, p) = g.2 in
      let h : Ticket sig (apply f nil) = subst (Ticket sig) e g.0 in
      record { earlier = stack_tokens sig k; operator = f; so_far = nil; declared = h.0; tickets = tt; stands = ap (λ x. stack_tokens sig k ++ tokens (text_of sig x)) e ∙ ap (λ l. stack_tokens sig k ++ l) (name_alone good f h.0 h.1); shows = needless_opening refl (sym h.1) refl; its_place = p }

  pub miscounted_closing : (t : Term) (m : Option At) (f : ℕ) (a : At) (ts : Terms) (n : ℕ) (k : Context) → Good sig (has t m (within f a ts (suc n) k)) → Miscounted sig (state_tokens sig (has t m (within f a ts (suc n) k))) (Some (a_mark Closing)) a
  miscounted_closing t m f a ts n k g = miscounted_within t m f a ts (suc n) k _ g.1.0 g.0 (shows_closing (op_of sig f).arity ts t n g.1.0.counted)

  pub miscounted_comma : (t : Term) (m : Option At) (f : ℕ) (a : At) (ts : Terms) (k : Context) → Good sig (has t m (within f a ts zero k)) → Miscounted sig (state_tokens sig (has t m (within f a ts zero k))) (Some (a_mark Comma)) a
  miscounted_comma t m f a ts k g = miscounted_within t m f a ts zero k _ g.1.0 g.0 (shows_comma (op_of sig f).arity ts t g.1.0.counted)
