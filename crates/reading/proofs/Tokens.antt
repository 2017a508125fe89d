-- The tokens of a text are its parts: a name is spelt as one, a number is digits, an instrument has digits behind '#', and a variable is one of eight.
use Rattle.std.proofs.Common.{◌≡◌, ℕ, zero, suc, ◌+◌, ◌-◌, ◌<◌, ◌≤◌, Bool, true, ◌&&◌, eqb, leb, List, [], ◌∷◌, ◌++◌, length, drop, Some, sym, refl, ap, ◌∙◌, subst, arith, length-append}
use Rattle.std.specs.List.{AllByRecursion}
use Rattle.std.proofs.lemmas.Bool.{cond_both, eqb-true, leb-true, le-leb, and_parts, and_from}
use Rattle.terms.specs.Signature.{lower, digit, word, all_words, spelt}
use Rattle.reading.specs.declared.token.Mark.{Mark}
use Rattle.reading.specs.declared.token.Mark.TheVariants.{Opening, Closing, Comma, Equals, Dash, Blank, LineEnd}
use Rattle.reading.specs.Tokens.{Tok, a_name, a_number, an_instrument, a_variable, a_mark, a_stray, front, single, first_token, first_of_text, mark_byte, token_bytes, mark_lines, lines, tokens_from, tokens, whole}
use Rattle.reading.proofs.Equal.{same_some}
use Rattle.reading.specs.Laws.{first_of}
use Rattle.std.proofs.lemmas.Option.{none-some}

front_rest : (p : ℕ → Bool) (k : ℕ) (bs : List ℕ) → front p k bs ++ drop (length (front p k bs)) bs ≡ bs
front_rest p zero bs = refl
front_rest p (suc k) [] = refl
front_rest p (suc k) (b ∷ bs) = cond_both (p b) (b ∷ front p k bs) [] (λ l. l ++ drop (length l) (b ∷ bs) ≡ b ∷ bs) (λ _. ap (λ l. b ∷ l) (front_rest p k bs)) (λ _. refl)

front_all : (p : ℕ → Bool) (k : ℕ) (bs : List ℕ) → AllByRecursion (λ b. p b ≡ true) (front p k bs)
front_all p zero bs = tt
front_all p (suc k) [] = tt
front_all p (suc k) (b ∷ bs) = cond_both (p b) (b ∷ front p k bs) [] (AllByRecursion (λ x. p x ≡ true)) (λ e. (e, front_all p k bs)) (λ _. tt)

front_short : (p : ℕ → Bool) (k : ℕ) (bs : List ℕ) → length (front p k bs) ≤ k
front_short p zero bs = omega arith
front_short p (suc k) [] = omega arith
front_short p (suc k) (b ∷ bs) = let ih = front_short p k bs in cond_both (p b) (b ∷ front p k bs) [] (λ l. length l ≤ suc k) (λ _. omega arith) (λ _. omega arith)

words_from_all : (bs : List ℕ) → AllByRecursion (λ b. word b ≡ true) bs → all_words bs ≡ true
words_from_all [] h = refl
words_from_all (b ∷ bs) h = and_from (word b) (all_words bs) h.0 (words_from_all bs h.1)

-- a name is a letter and the words behind it, 12 bytes at most
name_spelt : (b : ℕ) (bs : List ℕ) → lower b ≡ true → spelt (b ∷ front word 11 bs) ≡ true
name_spelt b bs l =
    let w : List ℕ = front word 11 bs in
    and_from (lower b) _ l (and_from (all_words w) _ (words_from_all w (front_all word 11 bs)) (le-leb (length w) 11 (front_short word 11 bs)))

abbrev pub Lexed : Tok → Type 0
Lexed (a_name s) = spelt s ≡ true
Lexed (a_number s) = AllByRecursion (λ d. digit d ≡ true) s
Lexed (an_instrument s) = AllByRecursion (λ d. digit d ≡ true) (drop 1 s)
Lexed (a_variable x) = x < 8
Lexed (a_mark m) = Unit {0}
Lexed (a_stray b) = Unit {0}

-- a token whose bytes are b and a front of bs
pub record Part (b : ℕ) (bs : List ℕ) (k : Tok) : Type 0 where
  pub lexed : Lexed k
  pub more : List ℕ
  pub bytes : token_bytes k ≡ b ∷ more
  pub rest : more ++ drop (length more) bs ≡ bs

by_itself : (b : ℕ) (bs : List ℕ) (k : Tok) → Lexed k → token_bytes k ≡ b ∷ [] → Part b bs k
by_itself b bs k l e = record { lexed = l; more = []; bytes = e; rest = refl }

marked : (b : ℕ) (bs : List ℕ) (m : Mark) → eqb b (mark_byte m) ≡ true → Part b bs (a_mark m)
marked b bs m e = by_itself b bs (a_mark m) tt (ap (λ x. x ∷ []) (sym (eqb-true b (mark_byte m) e)))

lettered : (b : ℕ) (bs : List ℕ) → (leb 65 b && leb b 72) ≡ true → Part b bs (a_variable (b - 65))
lettered b bs e =
    let (p, q) = and_parts (leb 65 b) (leb b 72) e in
    let h = leb-true 65 b p in
    let j = leb-true b 72 q in
    by_itself b bs (a_variable (b - 65)) (omega arith) (ap (λ x. x ∷ []) (omega arith))

single_part : (b : ℕ) (bs : List ℕ) → Part b bs (single b)
single_part b bs =
    cond_both _ _ _ (Part b bs) (lettered b bs)
    (λ _. cond_both _ _ _ (Part b bs) (marked b bs Opening)
    (λ _. cond_both _ _ _ (Part b bs) (marked b bs Closing)
    (λ _. cond_both _ _ _ (Part b bs) (marked b bs Comma)
    (λ _. cond_both _ _ _ (Part b bs) (marked b bs Equals)
    (λ _. cond_both _ _ _ (Part b bs) (marked b bs Dash)
    (λ _. cond_both _ _ _ (Part b bs) (marked b bs Blank)
    (λ _. cond_both _ _ _ (Part b bs) (marked b bs LineEnd)
    (λ _. by_itself b bs (a_stray b) tt refl))))))))

fronted : (b : ℕ) (bs : List ℕ) (k : Tok) (p : ℕ → Bool) (n : ℕ) → Lexed k → token_bytes k ≡ b ∷ front p n bs → Part b bs k
fronted b bs k p n l e = record { lexed = l; more = front p n bs; bytes = e; rest = front_rest p n bs }

pub first_part : (b : ℕ) (bs : List ℕ) → Part b bs (first_token b bs)
first_part b bs =
    let n : ℕ = length bs in
    cond_both (lower b) _ _ (Part b bs) (λ l. fronted b bs (a_name (b ∷ front word 11 bs)) word 11 (name_spelt b bs l) refl)
    (λ _. cond_both (digit b) _ _ (Part b bs) (λ d. fronted b bs (a_number (b ∷ front digit n bs)) digit n (d, front_all digit n bs) refl)
    (λ _. cond_both (eqb b 35) _ _ (Part b bs) (λ _. fronted b bs (an_instrument (b ∷ front digit n bs)) digit n (front_all digit n bs) refl)
    (λ _. single_part b bs)))

pub tokens_lexed : (k : ℕ) (bs : List ℕ) → AllByRecursion Lexed (tokens_from k bs)
tokens_lexed zero [] = tt
tokens_lexed (suc k) [] = tt
tokens_lexed zero (b ∷ bs) = ((first_part b bs).lexed, tokens_lexed (length (token_bytes (first_token b bs)) - 1) bs)
tokens_lexed (suc k) (b ∷ bs) = tokens_lexed k bs

pub whole_tokens : (k : ℕ) (bs : List ℕ) → whole (tokens_from k bs) ≡ drop k bs
whole_tokens zero [] = refl
whole_tokens (suc k) [] = refl
whole_tokens zero (b ∷ bs) =
    let part = first_part b bs in
    let n : length (token_bytes (first_token b bs)) - 1 ≡ length part.more = omega (arith, ap length part.bytes) in
    ap (λ l. token_bytes (first_token b bs) ++ l) (whole_tokens (length (token_bytes (first_token b bs)) - 1) bs ∙ ap (λ x. drop x bs) n)
    ∙ ap (λ l. l ++ drop (length part.more) bs) part.bytes ∙ ap (λ l. b ∷ l) part.rest
whole_tokens (suc k) (b ∷ bs) = whole_tokens k bs

tokens_behind : (k : ℕ) (bs : List ℕ) → tokens_from k bs ≡ tokens (drop k bs)
tokens_behind zero bs = refl
tokens_behind (suc k) [] = refl
tokens_behind (suc k) (b ∷ bs) = tokens_behind k bs

-- no token ends more lines than it has bytes
lines_few : (m : Mark) → mark_lines m ≤ 1
lines_few Opening = omega arith
lines_few Closing = omega arith
lines_few Comma = omega arith
lines_few Equals = omega arith
lines_few Dash = omega arith
lines_few Blank = omega arith
lines_few LineEnd = omega arith

lines_within : (k : Tok) → lines k ≤ length (token_bytes k)
lines_within (a_name s) = omega arith
lines_within (a_number s) = omega arith
lines_within (an_instrument s) = omega arith
lines_within (a_variable x) = omega arith
lines_within (a_mark m) = lines_few m
lines_within (a_stray b) = omega arith

-- the first token of a text and the tokens of what is left behind it
pub record Steps (bs : List ℕ) (k : Tok) : Type 0 where
  pub then_tokens : tokens bs ≡ k ∷ tokens (drop (length (token_bytes k)) bs)
  pub its_part : bs ≡ token_bytes k ++ drop (length (token_bytes k)) bs
  pub within : length (token_bytes k) ≤ length bs
  pub some_bytes : 1 ≤ length (token_bytes k)
  pub few_lines : lines k ≤ length (token_bytes k)

pub tokens_step : (bs : List ℕ) (k : Tok) → Some k ≡ first_of_text bs → Steps bs k
tokens_step [] k e = absurd (let z : ◌≡◌ {A = ℕ} 0 1 = cc in omega arith)
tokens_step (b ∷ bs) k e =
    let part = first_part b bs in
    let same : first_token b bs ≡ k = cc in
    let long = ap length part.bytes in
    let fits : length bs ≡ length part.more + length (drop (length part.more) bs) = sym (ap length part.rest) ∙ length-append part.more (drop (length part.more) bs) in
    subst (Steps (b ∷ bs)) same
    (record {
      then_tokens =
          ap (λ l. first_token b bs ∷ l)
          (tokens_behind (length (token_bytes (first_token b bs)) - 1) bs
          ∙ ap (λ x. tokens (drop x (b ∷ bs))) (let z : suc (length (token_bytes (first_token b bs)) - 1) ≡ length (token_bytes (first_token b bs)) = omega arith in z));
      its_part =
          ap (λ l. b ∷ l) (sym part.rest) ∙ ap (λ l. l ++ drop (length part.more) bs) (sym part.bytes)
          ∙ ap (λ x. token_bytes (first_token b bs) ++ drop x (b ∷ bs)) (let z : suc (length part.more) ≡ length (token_bytes (first_token b bs)) = omega arith in z);
      within = omega arith;
      some_bytes = omega arith;
      few_lines = lines_within (first_token b bs);
    })

-- the first of some tokens is one of them
pub first_lexed : (ks : List Tok) → AllByRecursion Lexed ks → (k : Tok) → first_of ks ≡ Some k → Lexed k
first_lexed [] l k e = absurd (none-some _ e)
first_lexed (j ∷ ks) l k e = subst Lexed (same_some e) l.0
