-- The tokens read so far begin some term: the arguments that are left are filled with #1.
use Rattle.std.proofs.Common.{◌≡◌, ℕ, zero, suc, List, [], ◌∷◌, ◌++◌, length, None, Ok, Option, sym, refl, ap, ◌∙◌, subst, append_assoc, append-nil, arith, decimal}
use Rattle.terms.specs.Term.{Term, instrument, apply, Terms, nil}
use Rattle.terms.specs.Signature.{Sig, Declared}
use Rattle.terms.specs.Text.{text_of}
use Rattle.reading.specs.declared.token.At.{At}
use Rattle.reading.specs.declared.token.Mark.TheVariants.{Opening, Closing, Comma}
use Rattle.reading.specs.Tokens.{Tok, an_instrument, a_mark, tokens, whole}
use Rattle.reading.specs.Reading.{Context, top, within, State, wants, opens, has, and_then, step, with_number}
use Rattle.reading.specs.Laws.{Begins}
use Rattle.reading.proofs.Tokens.{Lexed}
use Rattle.reading.proofs.States.{state_tokens, Good}
use Rattle.reading.proofs.Telling.{Keeps, keeps}
use Rattle.reading.proofs.Growing.{tokens_number, tokens_opened, tokens_continued, tokens_closed}
use Rattle.terms.specs.Ticket.{TermOf}
use Rattle.terms.proofs.Readable.{ticket_term}
use Rattle.reading.proofs.Digits.{all_digits_decimal, numbered_decimal}

-- the token of #1
abbrev one : Tok
one = an_instrument (35 ∷ decimal 1)

-- how good states go on, and which tokens start what is read
pub record Fillable (sig : Sig) (Fine : State → Type 0) (Starts : List Tok → Type 0) : Type 0 where
  pub front : (ks : List Tok) (k : Tok) → Starts (ks ++ (k ∷ [])) → Starts ks
  pub whole : (t : Term) (m : Option At) → Fine (has t m top) → Starts (tokens (text_of sig t))
  pub with_one : (f : ℕ) (a : At) (ts : Terms) (n : ℕ) (k : Context) → Fine (wants (within f a ts n k)) → Fine (has (instrument 1) None (within f a ts n k))
  pub opened : (f : ℕ) (a : At) (n : ℕ) (k : Context) → Fine (opens f a n k) → Fine (wants (within f a nil n k))
  pub continued : (t : Term) (m : Option At) (f : ℕ) (a : At) (ts : Terms) (n : ℕ) (k : Context) → Fine (has t m (within f a ts (suc n) k)) → Fine (wants (within f a (and_then ts t) n k))
  pub closed : (t : Term) (m : Option At) (f : ℕ) (a : At) (ts : Terms) (k : Context) → Fine (has t m (within f a ts zero k)) → Fine (has (apply f (and_then ts t)) None k) × TermOf sig (apply f (and_then ts t))

module _ {sig : Sig} (good : Declared sig) (Fine : State → Type 0) (Starts : List Tok → Type 0) (how : Fillable sig Fine Starts) where
  -- where the tokens of the next state do
  back : (s u : State) (k : Tok) → state_tokens sig u ≡ state_tokens sig s ++ (k ∷ []) → Starts (state_tokens sig u) → Starts (state_tokens sig s)
  back s u k e b = how.front (state_tokens sig s) k (subst Starts e b)

  -- the next argument is #1
  one_within : (f : ℕ) (a : At) (ts : Terms) (n : ℕ) (k : Context) → Fine (wants (within f a ts n k))
      → (Fine (has (instrument 1) None (within f a ts n k)) → Starts (state_tokens sig (has (instrument 1) None (within f a ts n k)))) → Starts (state_tokens sig (wants (within f a ts n k)))
  one_within f a ts n k g rest =
      let w : Context = within f a ts n k in
      back (wants w) (has (instrument 1) None w) one (tokens_number good w 1 (omega arith)) (rest (how.with_one f a ts n k g))

  -- and so are those that are left
  fill : (n f : ℕ) (a : At) (ts : Terms) (t : Term) (m : Option At) (k : Context) → Fine (has t m (within f a ts n k))
      → ((u : Term) (j : Option At) → Fine (has u j k) → Starts (state_tokens sig (has u j k))) → Starts (state_tokens sig (has t m (within f a ts n k)))
  fill zero f a ts t m k g rest =
      let u : Term = apply f (and_then ts t) in
      let (h, i) = how.closed t m f a ts k g in
      back (has t m (within f a ts zero k)) (has u None k) (a_mark Closing) (tokens_closed good f a ts t m k i) (rest u None h)
  fill (suc n) f a ts t m k g rest =
      let w : Context = within f a (and_then ts t) n k in
      back (has t m (within f a ts (suc n) k)) (wants w) (a_mark Comma) (tokens_continued good f a ts t m n k)
      (one_within f a (and_then ts t) n k (how.continued t m f a ts n k g) (λ h. fill n f a (and_then ts t) (instrument 1) None k h rest))

  pub starts_has : (k : Context) (t : Term) (m : Option At) → Fine (has t m k) → Starts (state_tokens sig (has t m k))
  starts_has top t m g = how.whole t m g
  starts_has (within f a ts n k) t m g = fill n f a ts t m k g (λ u j h. starts_has k u j h)

  pub starts_within : (f : ℕ) (a : At) (ts : Terms) (n : ℕ) (k : Context) → Fine (wants (within f a ts n k)) → Starts (state_tokens sig (wants (within f a ts n k)))
  starts_within f a ts n k g = one_within f a ts n k g (starts_has (within f a ts n k) (instrument 1) None)

  pub starts_opens : (f : ℕ) (a : At) (n : ℕ) (k : Context) → Fine (opens f a n k) → Starts (state_tokens sig (opens f a n k))
  starts_opens f a n k g = back (opens f a n k) (wants (within f a nil n k)) (a_mark Opening) (tokens_opened good f a n k) (starts_within f a nil n k (how.opened f a n k g))

-- of a ticket
module _ {sig : Sig} (good : Declared sig) where
  begins_front : (ks : List Tok) (k : Tok) → Begins sig (ks ++ (k ∷ [])) → Begins sig ks
  begins_front ks k (t, h, more) = (t, h, (k ∷ more.0, more.1 ∙ append_assoc ks (k ∷ []) more.0))

  next : (s : State) (k : Tok) (u : State) → Lexed k → Good sig s → step sig s (record { place = length (whole (state_tokens sig s)); line = 0 }) k ≡ Ok u → Good sig u
  next s k u l g e = (subst (Keeps sig s k) e (keeps good s _ k l g refl)).0

  one_next : (k : Context) → Good sig (wants k) → Good sig (has (instrument 1) None k)
  one_next k g = next (wants k) one (has (instrument 1) None k) (all_digits_decimal 1 (omega arith)) g (ap (λ o. with_number o (record { place = length (whole (state_tokens sig (wants k))); line = 0 }) k) (numbered_decimal 999999 1 (omega arith) (omega arith)))

  ticket_fillable : Fillable sig (Good sig) (Begins sig)
  ticket_fillable = record {
    front = begins_front;
    whole = λ t m g. (t, g.0, ([], sym (append-nil (tokens (text_of sig t)))));
    with_one = λ f a ts n k g. one_next (within f a ts n k) g;
    opened = λ f a n k g. next (opens f a n k) (a_mark Opening) (wants (within f a nil n k)) tt g refl;
    continued = λ t m f a ts n k g. next (has t m (within f a ts (suc n) k)) (a_mark Comma) (wants (within f a (and_then ts t) n k)) tt g refl;
    closed = λ t m f a ts k g. (let h = next (has t m (within f a ts zero k)) (a_mark Closing) (has (apply f (and_then ts t)) None k) tt g refl in
        (h, ticket_term sig (apply f (and_then ts t)) h.0));
  }

  begins_has : (k : Context) (t : Term) (m : Option At) → Good sig (has t m k) → Begins sig (state_tokens sig (has t m k))
  begins_has = starts_has good (Good sig) (Begins sig) ticket_fillable

  -- where a term may begin, one does
  pub begins_one : (k : Context) → Good sig (wants k) → Begins sig (state_tokens sig (wants k) ++ (one ∷ []))
  begins_one k g = subst (Begins sig) (tokens_number good k 1 (omega arith)) (begins_has k (instrument 1) None (one_next k g))

  pub begins : (s : State) → Good sig s → Begins sig (state_tokens sig s)
  begins (wants k) g = begins_front (state_tokens sig (wants k)) one (begins_one k g)
  begins (opens f a n k) g = starts_opens good (Good sig) (Begins sig) ticket_fillable f a n k g
  begins (has t m k) g = begins_has k t m g
