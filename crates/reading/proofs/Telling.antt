-- Each token that is accepted is one more of the tokens read.
use Rattle.std.proofs.Common.{◌≡◌, ℕ, zero, suc, ◌+◌, ◌<◌, List, [], ◌∷◌, ◌++◌, length, Some, None, Ok, Err, Option, Result, sym, refl, ap, ◌∙◌, subst, arith, length-append}
use Rattle.std.specs.List.{AllByRecursion}
use Rattle.terms.specs.Term.{Term, apply}
use Rattle.terms.specs.Signature.{Sig, op_of, found, Declared}
use Rattle.terms.specs.Ticket.{Ticket}
use Rattle.reading.specs.declared.token.At.{At}
use Rattle.reading.specs.declared.token.Mark.{Mark}
use Rattle.reading.specs.declared.token.Mark.TheVariants.{Opening, Closing, Comma, Equals, Dash, Blank, LineEnd}
use Rattle.reading.specs.declared.fault.TextFault.{TextFault}
use Rattle.reading.specs.Tokens.{Tok, a_name, a_number, an_instrument, a_variable, a_mark, a_stray, token_bytes, whole, lines, origin, past}
use Rattle.reading.specs.Numbers.{instrument_number}
use Rattle.reading.specs.Reading.{Context, top, within, State, wants, opens, has, and_then, named, with_name, with_number, closed, continued, on_opens_mark, on_has_mark, step}
use Rattle.reading.specs.Laws.{Behind}
use Rattle.reading.proofs.Digits.{instrument_is}
use Rattle.terms.proofs.Names.{found_is}
use Rattle.reading.proofs.Tokens.{Lexed}
use Rattle.reading.proofs.Growing.{name_alone, tokens_number, tokens_opened, tokens_closed, tokens_continued}
use Rattle.terms.proofs.Readable.{ticket_term}
use Rattle.reading.proofs.Running.{reach, passed, all_along}
use Rattle.reading.proofs.States.{name_of, stack_tokens, state_tokens, ContextGood, Good, tickets_then, frame_next, frame_full}

-- places

pub same_at : {x y m n : ℕ} → x ≡ y → m ≡ n → ◌≡◌ {A = At} (record { place = x; line = m }) (record { place = y; line = n })
same_at p q = cc

pub length_whole : (ks : List Tok) (k : Tok) → length (whole (ks ++ (k ∷ []))) ≡ length (whole ks) + length (token_bytes k)
length_whole [] k = omega (arith, length-append (token_bytes k) [])
length_whole (j ∷ ks) k = omega (arith, length-append (token_bytes j) (whole (ks ++ (k ∷ []))), length-append (token_bytes j) (whole ks), length_whole ks k)

-- one token

abbrev pub Keeps : Sig → State → Tok → Result State TextFault → Type 0
Keeps sig s k (Ok s') = Good sig s' × (state_tokens sig s' ≡ state_tokens sig s ++ (k ∷ [])) × (lines k ≡ 0)
Keeps sig s k (Err f) = Unit {0}

module _ {sig : Sig} (good : Declared sig) where
  named_keeps : (k : Context) (f n : ℕ) (at : At) → ContextGood sig k → Behind (stack_tokens sig k) at → f < length sig → n ≡ (op_of sig f).arity → Keeps sig (wants k) (name_of sig f) (Ok (named f n at k))
  named_keeps k f zero at g p h e = (((h, e, tt), g, (f, refl, p)), ap (λ l. stack_tokens sig k ++ l) (name_alone good f h e), refl)
  named_keeps k f (suc n) at g p h e = ((record { declared = h; counted = omega arith; terms = tt; placed = p }, g), refl, refl)

  name_keeps : (k : Context) (s : List ℕ) (at : At) (o : Option ℕ) → found sig s ≡ o → ContextGood sig k → Behind (stack_tokens sig k) at → Keeps sig (wants k) (a_name s) (with_name sig o at k)
  name_keeps k s at None e g p = tt
  name_keeps k s at (Some f) e g p =
      let (h, q) = found_is sig s f e in
      subst (λ x. Keeps sig (wants k) (a_name x) (with_name sig (Some f) at k)) q (named_keeps k f (op_of sig f).arity at g p h refl)

  number_keeps : (k : Context) (s : List ℕ) (at : At) (o : Option ℕ) → instrument_number s ≡ o → Lexed (an_instrument s) → ContextGood sig k → Keeps sig (wants k) (an_instrument s) (with_number o at k)
  number_keeps k s at None e l g = tt
  number_keeps k s at (Some n) e l g =
      let (q, h) = instrument_is s n l e in
      ((h, g, tt), tokens_number good k n h ∙ ap (λ x. stack_tokens sig k ++ (an_instrument x ∷ [])) (sym q), refl)

  closed_keeps : (t : Term) (m : Option At) (k : Context) (at : At) → Good sig (has t m k) → Keeps sig (has t m k) (a_mark Closing) (closed t k at)
  closed_keeps t m top at g = tt
  closed_keeps t m (within f a ts zero k) at g =
      let h : Ticket sig (apply f (and_then ts t)) = frame_full t g.1.0 (tickets_then sig ts t g.1.0.terms g.0) in
      ((h, g.1.1, tt), tokens_closed good f a ts t m k (ticket_term sig (apply f (and_then ts t)) h), refl)
  closed_keeps t m (within f a ts (suc n) k) at g = tt

  continued_keeps : (t : Term) (m : Option At) (k : Context) (at : At) → Good sig (has t m k) → Keeps sig (has t m k) (a_mark Comma) (continued t k at)
  continued_keeps t m top at g = tt
  continued_keeps t m (within f a ts zero k) at g = tt
  continued_keeps t m (within f a ts (suc n) k) at g = ((frame_next t g.1.0 (tickets_then sig ts t g.1.0.terms g.0), g.1.1), tokens_continued good f a ts t m n k, refl)

  mark_opens : (m : Mark) (f : ℕ) (a : At) (n : ℕ) (k : Context) → Good sig (opens f a n k) → Keeps sig (opens f a n k) (a_mark m) (on_opens_mark m f a n k)
  mark_opens Opening f a n k g = (g, tokens_opened good f a n k, refl)
  mark_opens Closing f a n k g = tt
  mark_opens Comma f a n k g = tt
  mark_opens Equals f a n k g = tt
  mark_opens Dash f a n k g = tt
  mark_opens Blank f a n k g = tt
  mark_opens LineEnd f a n k g = tt

  mark_has : (k : Mark) (at : At) (t : Term) (m : Option At) (s : Context) → Good sig (has t m s) → Keeps sig (has t m s) (a_mark k) (on_has_mark k at t m s)
  mark_has Opening at t m s g = tt
  mark_has Closing at t m s g = closed_keeps t m s at g
  mark_has Comma at t m s g = continued_keeps t m s at g
  mark_has Equals at t m s g = tt
  mark_has Dash at t m s g = tt
  mark_has Blank at t m s g = tt
  mark_has LineEnd at t m s g = tt

  pub keeps : (s : State) (at : At) (k : Tok) → Lexed k → Good sig s → Behind (state_tokens sig s) at → Keeps sig s k (step sig s at k)
  keeps (wants k) at (a_name s) l g p = name_keeps k s at (found sig s) refl g p
  keeps (wants k) at (a_number s) l g p = tt
  keeps (wants k) at (an_instrument s) l g p = number_keeps k s at (instrument_number s) refl l g
  keeps (wants k) at (a_variable x) l g p = tt
  keeps (wants k) at (a_mark m) l g p = tt
  keeps (wants k) at (a_stray b) l g p = tt
  keeps (opens f a n k) at (a_name s) l g p = tt
  keeps (opens f a n k) at (a_number s) l g p = tt
  keeps (opens f a n k) at (an_instrument s) l g p = tt
  keeps (opens f a n k) at (a_variable x) l g p = tt
  keeps (opens f a n k) at (a_mark m) l g p = mark_opens m f a n k g
  keeps (opens f a n k) at (a_stray b) l g p = tt
  keeps (has t m k) at (a_name s) l g p = tt
  keeps (has t m k) at (a_number s) l g p = tt
  keeps (has t m k) at (an_instrument s) l g p = tt
  keeps (has t m k) at (a_variable x) l g p = tt
  keeps (has t m k) at (a_mark j) l g p = mark_has j at t m k g
  keeps (has t m k) at (a_stray b) l g p = tt

  -- all tokens

  behind_past : (ks : List Tok) (at : At) (k : Tok) (ls : List Tok) → Behind ks at → lines k ≡ 0 → ls ≡ ks ++ (k ∷ []) → Behind ls (past at k)
  behind_past ks at k ls p q e =
      same_at (omega (arith, ap (λ x. x.place) p, ap (λ l. length (whole l)) e, length_whole ks k)) (omega (arith, ap (λ x. x.line) p))

  -- a state that is reached behind some tokens
  pub record Told (s : State) (ks : List Tok) (at : At) : Type 0 where
    pub is_good : Good sig s
    pub so_far : state_tokens sig s ≡ ks
    pub place : Behind (state_tokens sig s) at

  told_next : (s : State) (ks : List Tok) (at : At) (k : Tok) (u : State) → Lexed k → Told s ks at → step sig s at k ≡ Ok u → Told u (ks ++ (k ∷ [])) (past at k)
  told_next s ks at k u l z e =
      let (a, b, c) = subst (Keeps sig s k) e (keeps s at k l z.is_good z.place) in
      record { is_good = a; so_far = b ∙ ap (λ js. js ++ (k ∷ [])) z.so_far; place = behind_past (state_tokens sig s) at k (state_tokens sig u) z.place c b }

  -- from any good state at its place
  pub tells_from : (s : State) (at : At) (ks : List Tok) (u : State) → AllByRecursion Lexed ks → Good sig s → Behind (state_tokens sig s) at → reach sig s at ks ≡ Ok u → Told u (state_tokens sig s ++ ks) (passed at ks)
  tells_from s at ks u l g p e = all_along (step sig) Lexed Told told_next ks s (state_tokens sig s) at u l (record { is_good = g; so_far = refl; place = p }) e

  pub tells : (ks : List Tok) (u : State) → AllByRecursion Lexed ks → reach sig (wants top) origin ks ≡ Ok u → Told u ks (passed origin ks)
  tells ks u l e = tells_from (wants top) origin ks u l tt refl e
