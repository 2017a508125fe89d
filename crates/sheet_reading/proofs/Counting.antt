-- Counts of the tokens of a term, and of those read so far.
use Rattle.std.proofs.Common.{◌≡◌, ℕ, ◌+◌, List, [], ◌∷◌, ◌++◌, decimal, sym, refl, subst, arith}
use Rattle.terms.specs.Term.{Term, variable, instrument, apply, Terms, nil, cons, symbols, symbols_in}
use Rattle.terms.specs.Signature.{Sig, op_of, Declared}
use Rattle.terms.specs.Ticket.{TermOf, TermsOf}
use Rattle.terms.specs.Text.{text_of}
use Rattle.terms.specs.Substitution.{occurrences, occurrences_in}
use Rattle.reading.specs.declared.token.At.{At}
use Rattle.reading.specs.declared.token.Mark.TheVariants.{Opening, Closing, Comma}
use Rattle.reading.specs.Tokens.{Tok, a_name, an_instrument, a_variable, a_mark, tokens}
use Rattle.reading.specs.Reading.{Context, top, within, State, wants, opens, has}
use Rattle.reading.specs.Laws.{further_arguments, arguments_so_far}
use Rattle.reading.proofs.Lexing.{closing, parts, tokens_term}
use Rattle.reading.proofs.States.{name_of, awaiting, stack_tokens, state_tokens}
use Rattle.sheet_reading.specs.Sides.{symbols_before, depth, occurrences_before}
use Rattle.sheet_reading.specs.Laws.{count, symbol, mark, the_variable, side_end}
use Rattle.sheet_reading.proofs.SideStates.{ContextShaped, StateShaped}

pub count_append : (f : Tok → ℕ) (ks ls : List Tok) → count f (ks ++ ls) ≡ count f ks + count f ls
count_append f [] ls = omega arith
count_append f (k ∷ ks) ls = omega (arith, count_append f ks ls)

pub count_then : (f : Tok → ℕ) (ks : List Tok) (k : Tok) → count f (ks ++ (k ∷ [])) ≡ count f ks + f k
count_then f ks k = omega (arith, count_append f ks (k ∷ []))

-- one count of tokens exceeds another by a weight, of a term, of a row, and of what is read so far
pub record Weighs (f g : Tok → ℕ) (w : Term → ℕ) (ws : Terms → ℕ) (wk : Context → ℕ) : Type 0 where
  pub at_variable : (x : ℕ) → f (a_variable x) ≡ g (a_variable x) + w (variable x)
  pub at_instrument : (s : List ℕ) (n : ℕ) → f (an_instrument s) ≡ g (an_instrument s) + w (instrument n)
  pub at_operator : (s : List ℕ) (h : ℕ) (ts : Terms) → f (a_name s) + ws ts ≡ g (a_name s) + w (apply h ts)
  pub at_nil : ws nil ≡ 0
  pub at_cons : (t : Term) (ts : Terms) → ws (cons t ts) ≡ w t + ws ts
  pub at_comma : f (a_mark Comma) ≡ g (a_mark Comma)
  pub at_parentheses : f (a_mark Opening) + f (a_mark Closing) ≡ g (a_mark Opening) + g (a_mark Closing)
  pub at_top : wk top ≡ 0
  pub at_within : (s : List ℕ) (h : ℕ) (a : At) (ts : Terms) (n : ℕ) (k : Context) → f (a_name s) + f (a_mark Opening) + ws ts + wk k ≡ g (a_name s) + g (a_mark Opening) + wk (within h a ts n k)

module _ {sig : Sig} (good : Declared sig) {f g : Tok → ℕ} {w : Term → ℕ} {ws : Terms → ℕ} {wk : Context → ℕ} (weighs : Weighs f g w ws wk) where
  -- a term and the further ones
  count_row : (t : Term) (ts : Terms) → count f (tokens (text_of sig t)) ≡ count g (tokens (text_of sig t)) + w t → count f (further_arguments sig ts) ≡ count g (further_arguments sig ts) + ws ts
      → count f (tokens (text_of sig t) ++ further_arguments sig ts) ≡ count g (tokens (text_of sig t) ++ further_arguments sig ts) + ws (cons t ts)
  count_row t ts p q =
      let ks : List Tok = tokens (text_of sig t) in
      let ls : List Tok = further_arguments sig ts in
      omega (arith, count_append f ks ls, count_append g ks ls, weighs.at_cons t ts)

  by_parts : (t : Term) → TermOf sig t → count f (parts sig t) ≡ count g (parts sig t) + w t → count f (tokens (text_of sig t)) ≡ count g (tokens (text_of sig t)) + w t
  by_parts t h = subst (λ ks. count f ks ≡ count g ks + w t) (sym (tokens_term good t h))

  mutual
    pub count_term : (t : Term) → TermOf sig t → count f (tokens (text_of sig t)) ≡ count g (tokens (text_of sig t)) + w t
    count_term (variable x) h = by_parts (variable x) h (omega (arith, weighs.at_variable x))
    count_term (instrument n) h = by_parts (instrument n) h (omega (arith, weighs.at_instrument (35 ∷ decimal n) n))
    count_term (apply o ts) h = by_parts (apply o ts) h (omega (arith, weighs.at_operator (op_of sig o).name o ts, count_arguments ts h.2))

    count_arguments : (ts : Terms) → TermsOf sig ts → count f (arguments_so_far sig ts ++ closing ts) ≡ count g (arguments_so_far sig ts ++ closing ts) + ws ts
    count_arguments nil h = omega (arith, weighs.at_nil)
    count_arguments (cons t ts) h =
        let r : List Tok = tokens (text_of sig t) ++ further_arguments sig ts in
        omega (arith, count_then f r (a_mark Closing), count_then g r (a_mark Closing), weighs.at_parentheses, count_row t ts (count_term t h.0) (count_further ts h.1))

    count_further : (ts : Terms) → TermsOf sig ts → count f (further_arguments sig ts) ≡ count g (further_arguments sig ts) + ws ts
    count_further nil h = omega (arith, weighs.at_nil)
    count_further (cons t ts) h = omega (arith, weighs.at_comma, count_row t ts (count_term t h.0) (count_further ts h.1))

  count_awaiting : (ts : Terms) → TermsOf sig ts → count f (awaiting sig ts) + g (a_mark Opening) ≡ count g (awaiting sig ts) + f (a_mark Opening) + ws ts
  count_awaiting nil h = omega (arith, weighs.at_nil)
  count_awaiting (cons t ts) h =
      let r : List Tok = a_mark Opening ∷ (tokens (text_of sig t) ++ further_arguments sig ts) in
      omega (arith, count_then f r (a_mark Comma), count_then g r (a_mark Comma), weighs.at_comma, count_row t ts (count_term t h.0) (count_further ts h.1))

  pub count_stack : (before : List Tok) (k : Context) → ContextShaped sig before k → count f (stack_tokens sig k) ≡ count g (stack_tokens sig k) + wk k
  count_stack before top h = omega (arith, weighs.at_top)
  count_stack before (within o a ts n k) h =
      let ks : List Tok = name_of sig o ∷ awaiting sig ts in
      omega (arith, count_append f (stack_tokens sig k) ks, count_append g (stack_tokens sig k) ks, count_awaiting ts h.0.terms, count_stack before k h.1, weighs.at_within (op_of sig o).name o a ts n k)

-- nothing is counted
abbrev none : Tok → ℕ
none k = 0

count_none : (ks : List Tok) → count none ks ≡ 0
count_none [] = refl
count_none (k ∷ ks) = omega (arith, count_none ks)

weighs_symbols : Weighs symbol none symbols symbols_in symbols_before
weighs_symbols = record {
  at_variable = λ x. refl;
  at_instrument = λ s n. refl;
  at_operator = λ s h ts. omega arith;
  at_nil = refl;
  at_cons = λ t ts. refl;
  at_comma = refl;
  at_parentheses = refl;
  at_top = refl;
  at_within = λ s h a ts n k. omega arith;
}

weighs_variable : (x : ℕ) → Weighs (the_variable x) none (occurrences x) (occurrences_in x) (occurrences_before x)
weighs_variable x = record {
  at_variable = λ y. omega arith;
  at_instrument = λ s n. refl;
  at_operator = λ s h ts. omega arith;
  at_nil = refl;
  at_cons = λ t ts. refl;
  at_comma = refl;
  at_parentheses = refl;
  at_top = refl;
  at_within = λ s h a ts n k. omega arith;
}

-- nothing in a term ends a side
weighs_end : Weighs side_end none (λ _. 0) (λ _. 0) (λ _. 0)
weighs_end = record {
  at_variable = λ x. refl;
  at_instrument = λ s n. refl;
  at_operator = λ s h ts. refl;
  at_nil = refl;
  at_cons = λ t ts. refl;
  at_comma = refl;
  at_parentheses = refl;
  at_top = refl;
  at_within = λ s h a ts n k. refl;
}

-- parentheses in a term are closed, and those around what comes are open
weighs_depth : Weighs (mark Opening) (mark Closing) (λ _. 0) (λ _. 0) depth
weighs_depth = record {
  at_variable = λ x. refl;
  at_instrument = λ s n. refl;
  at_operator = λ s h ts. refl;
  at_nil = refl;
  at_cons = λ t ts. refl;
  at_comma = refl;
  at_parentheses = refl;
  at_top = refl;
  at_within = λ s h a ts n k. omega arith;
}

module _ {sig : Sig} (good : Declared sig) where
  pub count_symbols : (t : Term) → TermOf sig t → count symbol (tokens (text_of sig t)) ≡ symbols t
  count_symbols t h = omega (arith, count_term good weighs_symbols t h, count_none (tokens (text_of sig t)))

  pub count_variable : (x : ℕ) (t : Term) → TermOf sig t → count (the_variable x) (tokens (text_of sig t)) ≡ occurrences x t
  count_variable x t h = omega (arith, count_term good (weighs_variable x) t h, count_none (tokens (text_of sig t)))

  pub symbols_so_far : (before : List Tok) (k : Context) → ContextShaped sig before k → count symbol (stack_tokens sig k) ≡ symbols_before k
  symbols_so_far before k h = omega (arith, count_stack good weighs_symbols before k h, count_none (stack_tokens sig k))

  pub occurrences_so_far : (x : ℕ) (before : List Tok) (k : Context) → ContextShaped sig before k → count (the_variable x) (stack_tokens sig k) ≡ occurrences_before x k
  occurrences_so_far x before k h = omega (arith, count_stack good (weighs_variable x) before k h, count_none (stack_tokens sig k))

  pub open_so_far : (before : List Tok) (k : Context) → ContextShaped sig before k → count (mark Opening) (stack_tokens sig k) ≡ count (mark Closing) (stack_tokens sig k) + depth k
  open_so_far = count_stack good weighs_depth

  pub unended_term : (t : Term) → TermOf sig t → count side_end (tokens (text_of sig t)) ≡ 0
  unended_term t h = omega (arith, count_term good weighs_end t h, count_none (tokens (text_of sig t)))

  unended_stack : (before : List Tok) (k : Context) → ContextShaped sig before k → count side_end (stack_tokens sig k) ≡ 0
  unended_stack before k h = omega (arith, count_stack good weighs_end before k h, count_none (stack_tokens sig k))

  pub unended_so_far : (before : List Tok) (s : State) → StateShaped sig before s → count side_end (state_tokens sig s) ≡ 0
  unended_so_far before (wants k) h = unended_stack before k h
  unended_so_far before (opens f a n k) h = omega (arith, count_then side_end (stack_tokens sig k) (name_of sig f), unended_stack before k h.1)
  unended_so_far before (has t b k) h = omega (arith, count_append side_end (stack_tokens sig k) (tokens (text_of sig t)), unended_stack before k h.1, unended_term t h.0)
