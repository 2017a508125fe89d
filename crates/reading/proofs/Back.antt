-- A term's tokens are read as that term, where it fits.
use Rattle.std.proofs.Common.{◌≡◌, ℕ, zero, suc, ◌+◌, ◌<◌, List, [], ◌∷◌, ◌++◌, length, Some, None, Ok, Option, Result, sym, refl, ap, ◌∙◌, arith, decimal, ◌≤◌}
use Rattle.terms.specs.Term.{Term, variable, instrument, apply, Terms, nil, cons, how_many}
use Rattle.terms.specs.Signature.{Sig, op_of, found, Declared}
use Rattle.terms.specs.Ticket.{Ticket, Tickets, TermOf, TermsOf}
use Rattle.terms.specs.Text.{text_of}
use Rattle.reading.specs.declared.token.At.{At}
use Rattle.reading.specs.declared.token.Mark.TheVariants.{Opening, Closing, Comma}
use Rattle.reading.specs.Tokens.{Tok, a_name, a_mark, tokens, past, an_instrument, a_variable}
use Rattle.reading.specs.Reading.{Context, within, State, wants, opens, has, and_then, named, with_name, with_number, step}
use Rattle.reading.specs.Laws.{further_arguments, arguments_so_far}
use Rattle.reading.proofs.Digits.{numbered_decimal}
use Rattle.terms.proofs.Names.{found_name}
use Rattle.terms.proofs.Readable.{ticket_term, tickets_terms}
use Rattle.reading.proofs.Lexing.{closing, tokens_term}
use Rattle.reading.proofs.Running.{reach, passed, reach_join, reach_with, then_reach}

abbrev pub join : Terms → Terms → Terms
join nil us = us
join (cons t ts) us = cons t (join ts us)

pub join_then : (us : Terms) (u : Term) (ts : Terms) → join (and_then us u) ts ≡ join us (cons u ts)
join_then nil u ts = refl
join_then (cons v us) u ts = ap (cons v) (join_then us u ts)

join_nil : (us : Terms) → join us nil ≡ us
join_nil nil = refl
join_nil (cons u us) = ap (cons u) (join_nil us)

pub then_join : (us : Terms) (u : Term) → and_then us u ≡ join us (cons u nil)
then_join us u = sym (join_nil (and_then us u)) ∙ join_then us u nil

-- a run comes to the last of these arguments of f, with n to follow
abbrev pub ComesTo : {E : Type 0} → Result State E → ℕ → At → ℕ → Context → Terms → Type 0
ComesTo r f a n k ts = (us : Terms) × (u : Term) × (m : Option At) × (and_then us u ≡ ts) × (r ≡ Ok (has u m (within f a us n k)))

-- how terms are read that fit in their context, and rows of arguments that fit behind other ones
pub record Readable (sig : Sig) {E : Type 0} (next : State → At → Tok → Result State E) (Fits : Term → Context → Type 0) (RowFits : Terms → Terms → Context → Type 0) : Type 0 where
  pub arguments : (f : ℕ) (ts : Terms) (k : Context) → Fits (apply f ts) k → RowFits ts nil k
  pub first : (t : Term) (ts us : Terms) (f : ℕ) (a : At) (n : ℕ) (k : Context) → RowFits (cons t ts) us k → Fits t (within f a us n k)
  pub others : (t : Term) (ts us : Terms) (k : Context) → RowFits (cons t ts) us k → RowFits ts (and_then us t) k
  pub on_variable : (x : ℕ) (k : Context) (at : At) → Fits (variable x) k → next (wants k) at (a_variable x) ≡ Ok (has (variable x) None k)
  pub on_instrument : (n : ℕ) (k : Context) (at : At) → n ≤ 999999 → Fits (instrument n) k → next (wants k) at (an_instrument (35 ∷ decimal n)) ≡ Ok (has (instrument n) None k)
  pub on_name : (f : ℕ) (ts : Terms) (k : Context) (at : At) → f < length sig → Fits (apply f ts) k → next (wants k) at (a_name (op_of sig f).name) ≡ Ok (named f (op_of sig f).arity at k)
  pub on_opening : (f : ℕ) (a : At) (n : ℕ) (k : Context) (at : At) → next (opens f a n k) at (a_mark Opening) ≡ Ok (wants (within f a nil n k))
  pub on_comma : (t : Term) (m : Option At) (f : ℕ) (a : At) (us : Terms) (n : ℕ) (k : Context) (at : At) → next (has t m (within f a us (suc n) k)) at (a_mark Comma) ≡ Ok (wants (within f a (and_then us t) n k))
  pub on_closing : (t : Term) (m : Option At) (f : ℕ) (a : At) (us : Terms) (k : Context) (at : At) → next (has t m (within f a us zero k)) at (a_mark Closing) ≡ Ok (has (apply f (and_then us t)) None k)

module _ {sig : Sig} (good : Declared sig) {E : Type 0} (next : State → At → Tok → Result State E) (Fits : Term → Context → Type 0) (RowFits : Terms → Terms → Context → Type 0) (how : Readable sig next Fits RowFits) where
  abbrev then : State → At → List Tok → Result State E
  then = reach_with next

  -- some tokens are read as the term, wherever it fits
  abbrev Reads : List Tok → Term → Type 0
  Reads ks t = (k : Context) (at : At) → Fits t k → (m : Option At) × (then (wants k) at ks ≡ Ok (has t m k))

  -- further arguments are read on
  abbrev Further : Terms → Type 0
  Further ts = (us : Terms) (u : Term) (m : Option At) (f : ℕ) (a : At) (n j : ℕ) (k : Context) (at : At) → n ≡ how_many ts + j → RowFits ts (and_then us u) k
      → ComesTo (then (has u m (within f a us n k)) at (further_arguments sig ts)) f a j k (join us (cons u ts))

  -- an argument and further ones
  leads_row : (t : Term) (ts : Terms) → Reads (tokens (text_of sig t)) t → Further ts → (us : Terms) (f : ℕ) (a : At) (n j : ℕ) (k : Context) (at : At) → n ≡ how_many ts + j → RowFits (cons t ts) us k
      → ComesTo (then (wants (within f a us n k)) at (tokens (text_of sig t) ++ further_arguments sig ts)) f a j k (join us (cons t ts))
  leads_row t ts h g us f a n j k at e p =
      let w : Context = within f a us n k in
      let (m, q) = h w at (how.first t ts us f a n k p) in
      let (vs, v, l, z, y) = g us t m f a n j k (passed at (tokens (text_of sig t))) e (how.others t ts us k p) in
      (vs, v, l, z, reach_join next (wants w) at (tokens (text_of sig t)) (further_arguments sig ts) (has t m w) (has v l (within f a vs j k)) q y)

  leads_first : (t : Term) (ts : Terms) → Reads (tokens (text_of sig t)) t → Further ts → (f : ℕ) (a : At) (n j : ℕ) (k : Context) (at : At) → n ≡ how_many ts + j → RowFits (cons t ts) nil k
      → ComesTo (then (opens f a n k) at (arguments_so_far sig (cons t ts))) f a j k (cons t ts)
  leads_first t ts h g f a n j k at e p =
      let (vs, v, l, q, y) = leads_row t ts h g nil f a n j k (past at (a_mark Opening)) e p in
      (vs, v, l, q, then_reach next (opens f a n k) at (a_mark Opening) (tokens (text_of sig t) ++ further_arguments sig ts) (wants (within f a nil n k)) (how.on_opening f a n k at) ∙ y)

  -- behind all arguments, the closing parenthesis
  closes : (s : State) (at : At) (ks : List Tok) (f : ℕ) (a : At) (k : Context) (ts : Terms) → ComesTo (then s at ks) f a 0 k ts → (m : Option At) × (then s at (ks ++ (a_mark Closing ∷ [])) ≡ Ok (has (apply f ts) m k))
  closes s at ks f a k ts h =
      let (us, u, m, e, q) = h in
      let there : State = has u m (within f a us 0 k) in (
        None,
        reach_join next s at ks (a_mark Closing ∷ []) there (has (apply f ts) None k) q
            (then_reach next there (passed at ks) (a_mark Closing) [] (has (apply f (and_then us u)) None k) (how.on_closing u m f a us k (passed at ks)) ∙ ap (λ l. Ok (has (apply f l) None k)) e),
      )

  mutual
    pub reads_term : (t : Term) → TermOf sig t → Reads (tokens (text_of sig t)) t
    reads_term (variable x) h k at p = (None, ap (then (wants k) at) (tokens_term good (variable x) h) ∙ then_reach next (wants k) at (a_variable x) [] (has (variable x) None k) (how.on_variable x k at p))
    reads_term (instrument n) h k at p =
        (None, ap (then (wants k) at) (tokens_term good (instrument n) h) ∙ then_reach next (wants k) at (an_instrument (35 ∷ decimal n)) [] (has (instrument n) None k) (how.on_instrument n k at h p))
    reads_term (apply f ts) h k at p =
        let w : Tok = a_name (op_of sig f).name in
        let ks : List Tok = arguments_so_far sig ts ++ closing ts in
        let (m, e) = reads_arguments ts h.2 f at k (past at w) (how.arguments f ts k p) in (
          m,
          ap (then (wants k) at) (tokens_term good (apply f ts) h)
              ∙ then_reach next (wants k) at w ks (named f (op_of sig f).arity at k) (how.on_name f ts k at h.0 p)
              ∙ ap (λ n. then (named f n at k) (past at w) ks) (sym h.1) ∙ e,
        )

    reads_arguments : (ts : Terms) → TermsOf sig ts → (f : ℕ) (a : At) (k : Context) (at : At) → RowFits ts nil k → (m : Option At) × (then (named f (how_many ts) a k) at (arguments_so_far sig ts ++ closing ts) ≡ Ok (has (apply f ts) m k))
    reads_arguments nil h f a k at p = (Some a, refl)
    reads_arguments (cons t ts) h f a k at p = closes (opens f a (how_many ts) k) at (arguments_so_far sig (cons t ts)) f a k (cons t ts) (leads_first t ts (reads_term t h.0) (reads_further ts h.1) f a (how_many ts) 0 k at (omega arith) p)

    reads_further : (ts : Terms) → TermsOf sig ts → Further ts
    reads_further nil h us u m f a n j k at e p = (us, u, m, then_join us u, ap (λ x. Ok (has u m (within f a us x k))) (omega arith))
    reads_further (cons t ts) h us u m f a zero j k at e p = absurd (omega arith)
    reads_further (cons t ts) h us u m f a (suc n) j k at e p =
        let (vs, v, l, q, y) = leads_row t ts (reads_term t h.0) (reads_further ts h.1) (and_then us u) f a n j k (past at (a_mark Comma)) (omega arith) p in
        (vs, v, l, q ∙ join_then us u (cons t ts), then_reach next (has u m (within f a us (suc n) k)) at (a_mark Comma) (tokens (text_of sig t) ++ further_arguments sig ts) (wants (within f a (and_then us u) n k)) (how.on_comma u m f a us n k at) ∙ y)

  -- an operator's first arguments, with j to follow
  pub reads_first : (t : Term) (ts : Terms) → TermsOf sig (cons t ts) → (f : ℕ) (a : At) (n j : ℕ) (k : Context) (at : At) → n ≡ how_many ts + j → RowFits (cons t ts) nil k
      → ComesTo (then (opens f a n k) at (arguments_so_far sig (cons t ts))) f a j k (cons t ts)
  reads_first t ts h = leads_first t ts (reads_term t h.0) (reads_further ts h.1)

-- a ticket's tokens are read as that ticket
module _ {sig : Sig} (good : Declared sig) where
  pub name_step : (f : ℕ) → f < length sig → (k : Context) (at : At) → with_name sig (found sig (op_of sig f).name) at k ≡ Ok (named f (op_of sig f).arity at k)
  name_step f h k at = ap (λ o. with_name sig o at k) (found_name good f h)

  ticket_readable : Readable sig (step sig) (λ t k. Ticket sig t) (λ ts us k. Tickets sig ts)
  ticket_readable = record {
    arguments = λ f ts k h. h.2;
    first = λ t ts us f a n k h. h.0;
    others = λ t ts us k h. h.1;
    on_variable = λ x k at h. absurd h;
    on_instrument = λ n k at l h. ap (λ o. with_number o at k) (numbered_decimal 999999 n (omega arith) l);
    on_name = λ f ts k at l h. name_step f l k at;
    on_opening = λ f a n k at. refl;
    on_comma = λ t m f a us n k at. refl;
    on_closing = λ t m f a us k at. refl;
  }

  pub reads : (t : Term) → Ticket sig t → (k : Context) (at : At) → (m : Option At) × (reach sig (wants k) at (tokens (text_of sig t)) ≡ Ok (has t m k))
  reads t h k at = reads_term good (step sig) (λ t k. Ticket sig t) (λ ts us k. Tickets sig ts) ticket_readable t (ticket_term sig t h) k at h

  pub leads_arguments : (t : Term) (ts : Terms) → Tickets sig (cons t ts) → (f : ℕ) (a : At) (n j : ℕ) (k : Context) (at : At) → n ≡ how_many ts + j → ComesTo (reach sig (opens f a n k) at (arguments_so_far sig (cons t ts))) f a j k (cons t ts)
  leads_arguments t ts h f a n j k at e = reads_first good (step sig) (λ t k. Ticket sig t) (λ ts us k. Tickets sig ts) ticket_readable t ts (tickets_terms sig (cons t ts) h) f a n j k at e h
