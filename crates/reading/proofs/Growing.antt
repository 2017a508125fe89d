-- The tokens behind a name, and behind each mark of arguments; and when they show a wrong count.
use Rattle.std.proofs.Common.{◌≡◌, ℕ, zero, suc, ◌<◌, [], ◌∷◌, ◌++◌, length, None, Option, sym, ap, ◌∙◌, append_assoc, ◌+◌, Some, refl, arith, ◌≤◌, decimal}
use Rattle.terms.specs.Term.{Term, apply, Terms, nil, how_many, instrument}
use Rattle.terms.specs.Signature.{Sig, op_of, Declared}
use Rattle.terms.specs.Ticket.{TermOf}
use Rattle.terms.specs.Text.{text_of}
use Rattle.reading.specs.declared.token.At.{At}
use Rattle.reading.specs.declared.token.Mark.TheVariants.{Opening, Closing, Comma}
use Rattle.reading.specs.Tokens.{a_mark, tokens, an_instrument}
use Rattle.reading.specs.Reading.{Context, within, wants, opens, has, and_then}
use Rattle.reading.specs.Laws.{arguments_so_far, ShowsCount, closing_for_comma, comma_for_closing}
use Rattle.reading.proofs.States.{name_of, stack_tokens, state_tokens, arguments_then, awaiting_then, closing_then, awaiting, many_then}
use Rattle.reading.proofs.Lexing.{tokens_term}

module _ {sig : Sig} (good : Declared sig) where
  pub name_alone : (f : ℕ) → f < length sig → 0 ≡ (op_of sig f).arity → tokens (text_of sig (apply f nil)) ≡ name_of sig f ∷ []
  name_alone f h e = tokens_term good (apply f nil) (h, e, tt)

  pub tokens_number : (k : Context) (n : ℕ) → n ≤ 999999 → state_tokens sig (has (instrument n) None k) ≡ state_tokens sig (wants k) ++ (an_instrument (35 ∷ decimal n) ∷ [])
  tokens_number k n h = ap (λ l. stack_tokens sig k ++ l) (tokens_term good (instrument n) h)

  pub tokens_opened : (f : ℕ) (a : At) (n : ℕ) (k : Context) → state_tokens sig (wants (within f a nil n k)) ≡ state_tokens sig (opens f a n k) ++ (a_mark Opening ∷ [])
  tokens_opened f a n k = sym (append_assoc (stack_tokens sig k) (name_of sig f ∷ []) (a_mark Opening ∷ []))

  pub tokens_closed : (f : ℕ) (a : At) (ts : Terms) (t : Term) (m : Option At) (k : Context) → TermOf sig (apply f (and_then ts t))
      → state_tokens sig (has (apply f (and_then ts t)) None k) ≡ state_tokens sig (has t m (within f a ts zero k)) ++ (a_mark Closing ∷ [])
  tokens_closed f a ts t m k h =
      ap (λ l. stack_tokens sig k ++ l) (tokens_term good (apply f (and_then ts t)) h)
      ∙ ap (λ l. stack_tokens sig k ++ (name_of sig f ∷ (arguments_so_far sig (and_then ts t) ++ l))) (closing_then ts t)
      ∙ ap (λ l. stack_tokens sig k ++ (name_of sig f ∷ (l ++ (a_mark Closing ∷ [])))) (arguments_then sig ts t) ∙ simp append_assoc

  pub tokens_continued : (f : ℕ) (a : At) (ts : Terms) (t : Term) (m : Option At) (n : ℕ) (k : Context)
      → state_tokens sig (wants (within f a (and_then ts t) n k)) ≡ state_tokens sig (has t m (within f a ts (suc n) k)) ++ (a_mark Comma ∷ [])
  tokens_continued f a ts t m n k =
      ap (λ l. stack_tokens sig k ++ (name_of sig f ∷ l)) (awaiting_then sig ts t)
      ∙ ap (λ l. stack_tokens sig k ++ (name_of sig f ∷ (l ++ (a_mark Comma ∷ [])))) (arguments_then sig ts t) ∙ simp append_assoc

-- an operator and its arguments so far
pub tokens_arguments : (sig : Sig) (f : ℕ) (a : At) (ts : Terms) (t : Term) (m : Option At) (n : ℕ) (k : Context)
    → state_tokens sig (has t m (within f a ts n k)) ≡ stack_tokens sig k ++ (name_of sig f ∷ arguments_so_far sig (and_then ts t))
tokens_arguments sig f a ts t m n k = append_assoc (stack_tokens sig k) (name_of sig f ∷ awaiting sig ts) _ ∙ ap (λ l. stack_tokens sig k ++ (name_of sig f ∷ l)) (sym (arguments_then sig ts t))

pub shows_closing : (arity : ℕ) (ts : Terms) (t : Term) (n : ℕ) → how_many ts + suc (suc n) ≡ arity → ShowsCount arity (and_then ts t) (Some (a_mark Closing))
shows_closing arity ts t n e = closing_for_comma (omega (arith, many_then ts t)) (omega (arith, many_then ts t)) refl

pub shows_comma : (arity : ℕ) (ts : Terms) (t : Term) → how_many ts + 1 ≡ arity → ShowsCount arity (and_then ts t) (Some (a_mark Comma))
shows_comma arity ts t e = comma_for_closing (omega (arith, many_then ts t)) (omega (arith, many_then ts t)) refl
