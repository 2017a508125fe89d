-- The tokens of a term's text.
use Rattle.std.proofs.Common.{◌≡◌, ℕ, zero, suc, ◌-◌, ◌≤◌, Bool, true, false, ◌&&◌, leb, List, [], ◌∷◌, ◌++◌, length, decimal, sym, refl, ap, ◌∙◌, append_assoc, append-nil, arith, length-append, ◌+◌, ◌%◌, ◌<◌, mod-eq_of_lt}
use Rattle.std.specs.List.{AllByRecursion}
use Rattle.std.proofs.lemmas.Bool.{false≢true, cond-true, cond-false, or_parts, and_parts, leb-true, and_from, and_left, and_right, le-leb, lt-leb, ne_eqb}
use Rattle.terms.specs.Term.{Term, variable, instrument, apply, Terms, nil, cons}
use Rattle.terms.specs.Signature.{Sig, op_of, lower, digit, word, all_words, spelt, Declared}
use Rattle.terms.specs.Ticket.{TermOf, TermsOf}
use Rattle.terms.specs.Text.{text_of, arguments_text, others_text}
use Rattle.reading.specs.declared.token.Mark.TheVariants.{Opening, Closing, Comma}
use Rattle.reading.specs.Tokens.{Tok, a_name, an_instrument, a_mark, front, first_token, token_bytes, tokens_from, tokens, a_variable}
use Rattle.reading.specs.Laws.{AllDigits, further_arguments, arguments_so_far}
use Rattle.reading.proofs.Digits.{all_digits_decimal}

-- what follows does not go on with this class of bytes
abbrev pub Stops : (ℕ → Bool) → List ℕ → Type 0
Stops p [] = Unit {0}
Stops p (b ∷ bs) = p b ≡ false

pub front_is : (p : ℕ → Bool) (k : ℕ) (xs r : List ℕ) → AllByRecursion (λ b. p b ≡ true) xs → length xs ≤ k → Stops p r → front p k (xs ++ r) ≡ xs
front_is p zero [] r h l s = refl
front_is p (suc k) [] [] h l s = refl
front_is p (suc k) [] (b ∷ r) h l s = cond-false _ _ _ s
front_is p zero (x ∷ xs) r h l s = absurd (omega arith)
front_is p (suc k) (x ∷ xs) r h l s = cond-true _ _ _ h.0 ∙ ap (λ l. x ∷ l) (front_is p k xs r h.1 (omega arith) s)

tokens_skip : (xs r : List ℕ) → tokens_from (length xs) (xs ++ r) ≡ tokens r
tokens_skip [] r = refl
tokens_skip (x ∷ xs) r = tokens_skip xs r

pub tokens_first : (b : ℕ) (bs r : List ℕ) (t : Tok) → first_token b (bs ++ r) ≡ t → token_bytes t ≡ b ∷ bs → tokens (b ∷ (bs ++ r)) ≡ t ∷ tokens r
tokens_first b bs r t e q =
    ap (λ x. x ∷ tokens_from (length (token_bytes x) - 1) (bs ++ r)) e
    ∙ ap (λ n. t ∷ tokens_from n (bs ++ r)) (omega (arith, ap length q))
    ∙ ap (λ l. t ∷ l) (tokens_skip bs r)

all_from_words : (bs : List ℕ) → all_words bs ≡ true → AllByRecursion (λ b. word b ≡ true) bs
all_from_words [] h = tt
all_from_words (b ∷ bs) h = let (p, q) = and_parts (word b) (all_words bs) h in (p, all_from_words bs q)

pub tokens_name : (s r : List ℕ) → spelt s ≡ true → Stops word r → tokens (s ++ r) ≡ a_name s ∷ tokens r
tokens_name [] r h e = absurd (false≢true h)
tokens_name (b ∷ bs) r h e =
    let (l, m) = and_parts (lower b) (all_words bs && leb (length bs) 11) h in
    let (w, n) = and_parts (all_words bs) (leb (length bs) 11) m in
    tokens_first b bs r (a_name (b ∷ bs)) (cond-true _ _ _ l ∙ ap (λ l. a_name (b ∷ l)) (front_is word 11 bs r (all_from_words bs w) (leb-true (length bs) 11 n) e)) refl

pub stops_digit : (r : List ℕ) → Stops word r → Stops digit r
stops_digit [] h = tt
stops_digit (b ∷ r) h = (or_parts (lower b) (digit b) h).1

pub tokens_instrument : (ds r : List ℕ) → AllDigits ds → Stops word r → tokens (35 ∷ (ds ++ r)) ≡ an_instrument (35 ∷ ds) ∷ tokens r
tokens_instrument ds r h e = tokens_first 35 ds r (an_instrument (35 ∷ ds)) (ap (λ l. an_instrument (35 ∷ l)) (front_is digit (length (ds ++ r)) ds r h (omega (arith, length-append ds r)) (stops_digit r e))) refl

pub stops_arguments : (sig : Sig) (ts : Terms) (r : List ℕ) → Stops word r → Stops word (arguments_text sig ts ++ r)
stops_arguments sig nil r h = h
stops_arguments sig (cons t ts) r h = refl

pub stops_others : (sig : Sig) (ts : Terms) (r : List ℕ) → Stops word (others_text sig ts ++ r)
stops_others sig nil r = refl
stops_others sig (cons t ts) r = refl

-- the parenthesis behind arguments
abbrev pub closing : Terms → List Tok
closing nil = []
closing (cons t ts) = a_mark Closing ∷ []

-- 'A' to 'H'
letter : (x : ℕ) → x < 8 → (leb 65 (65 + x) && leb (65 + x) 72) ≡ true
letter x h = and_from _ _ (le-leb 65 (65 + x) (omega arith)) (le-leb (65 + x) 72 (omega arith))

first_variable : (x : ℕ) (r : List ℕ) → x < 8 → first_token (65 + x) r ≡ a_variable x
first_variable x r h =
    cond-false _ _ _ (and_left (leb 97 (65 + x)) _ (lt-leb 97 (65 + x) (omega arith)))
    ∙ cond-false _ _ _ (and_right _ (leb (65 + x) 57) (lt-leb (65 + x) 57 (omega arith)))
    ∙ cond-false _ _ _ (ne_eqb (65 + x) 35 (λ e. omega arith))
    ∙ cond-true _ _ _ (letter x h) ∙ ap a_variable (omega arith)

tokens_variable : (x : ℕ) (r : List ℕ) → x < 8 → tokens ((65 + x % 16) ∷ r) ≡ a_variable x ∷ tokens r
tokens_variable x r h = ap (λ n. tokens ((65 + n) ∷ r)) (mod-eq_of_lt {n = x} {m = 16} (omega arith)) ∙ tokens_first (65 + x) [] r (a_variable x) (first_variable x r h) refl

-- the tokens of a term, by its parts
abbrev pub parts : Sig → Term → List Tok
parts sig (variable x) = a_variable x ∷ []
parts sig (instrument n) = an_instrument (35 ∷ decimal n) ∷ []
parts sig (apply f ts) = a_name (op_of sig f).name ∷ (arguments_so_far sig ts ++ closing ts)

-- a text gives these tokens, whatever follows that does not go on with a name or a number
abbrev pub Lexes : List ℕ → List Tok → Type 0
Lexes s ks = (r : List ℕ) → Stops word r → tokens (s ++ r) ≡ ks ++ tokens r

pub lexes_alone : (s : List ℕ) (ks : List Tok) → Lexes s ks → tokens s ≡ ks
lexes_alone s ks h = ap tokens (sym (append-nil s)) ∙ h [] tt ∙ append-nil ks

-- and this one whatever follows
abbrev pub LexesOn : List ℕ → List Tok → Type 0
LexesOn s ks = (r : List ℕ) → tokens (s ++ r) ≡ ks ++ tokens r

-- a term, the further ones, and the closing parenthesis
pub lexes_row : (sig : Sig) (t : Term) (ks : List Tok) (ts : Terms) → Lexes (text_of sig t) ks → LexesOn (others_text sig ts) (further_arguments sig ts ++ (a_mark Closing ∷ []))
    → LexesOn (text_of sig t ++ others_text sig ts) ((tokens (text_of sig t) ++ further_arguments sig ts) ++ (a_mark Closing ∷ []))
lexes_row sig t ks ts h j r =
    ap tokens (append_assoc (text_of sig t) (others_text sig ts) r)
    ∙ h (others_text sig ts ++ r) (stops_others sig ts r)
    ∙ ap (λ l. l ++ tokens (others_text sig ts ++ r)) (sym (lexes_alone (text_of sig t) ks h))
    ∙ ap (λ l. tokens (text_of sig t) ++ l) (j r)
    ∙ simp append_assoc

module _ {sig : Sig} (good : Declared sig) where
  mutual
    lexes_term : (t : Term) → TermOf sig t → Lexes (text_of sig t) (parts sig t)
    lexes_term (variable x) h r s = tokens_variable x r h
    lexes_term (instrument n) h r s = tokens_instrument (decimal n) r (all_digits_decimal n (omega arith)) s
    lexes_term (apply f ts) h r s =
        let w : List ℕ = (op_of sig f).name in
        ap tokens (append_assoc w (arguments_text sig ts) r)
        ∙ tokens_name w (arguments_text sig ts ++ r) (good.are_spelt f h.0) (stops_arguments sig ts r s)
        ∙ ap (λ l. a_name w ∷ l) (lexes_arguments ts h.2 r)

    lexes_arguments : (ts : Terms) → TermsOf sig ts → LexesOn (arguments_text sig ts) (arguments_so_far sig ts ++ closing ts)
    lexes_arguments nil h r = refl
    lexes_arguments (cons t ts) h r = ap (λ l. a_mark Opening ∷ l) (lexes_row sig t (parts sig t) ts (lexes_term t h.0) (lexes_others ts h.1) r)

    lexes_others : (ts : Terms) → TermsOf sig ts → LexesOn (others_text sig ts) (further_arguments sig ts ++ (a_mark Closing ∷ []))
    lexes_others nil h r = refl
    lexes_others (cons t ts) h r = ap (λ l. a_mark Comma ∷ l) (lexes_row sig t (parts sig t) ts (lexes_term t h.0) (lexes_others ts h.1) r)

  pub tokens_term : (t : Term) → TermOf sig t → tokens (text_of sig t) ≡ parts sig t
  tokens_term t h = lexes_alone (text_of sig t) (parts sig t) (lexes_term t h)

  -- and before what does not go on with it
  pub tokens_before : (t : Term) → TermOf sig t → (r : List ℕ) → Stops word r → tokens (text_of sig t ++ r) ≡ tokens (text_of sig t) ++ tokens r
  tokens_before t h r s = lexes_term t h r s ∙ ap (λ l. l ++ tokens r) (sym (tokens_term t h))
