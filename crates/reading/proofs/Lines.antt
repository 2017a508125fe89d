-- The tokens of a line, with blanks between, and of the two lines of a heading.
use Rattle.std.proofs.Common.{◌≡◌, ℕ, ◌+◌, ◌*◌, ◌<◌, ◌≤◌, true, false, leb, List, [], ◌∷◌, ◌++◌, map, length, decimal, sym, refl, ap, ◌∙◌, append_assoc, arith, length-append}
use Rattle.std.specs.List.{AllByRecursion}
use Rattle.std.proofs.lemmas.Fmt.{decimal_nonempty, decimal_digit}
use Rattle.std.proofs.ByRecursion.{All-weaker, All-from_get_or}
use Rattle.std.proofs.lemmas.Bool.{cond-true, cond-false, and_parts, and_left, leb-true, lt-leb}
use Rattle.terms.specs.Signature.{Op, Sig, lower, digit, word, spelt, Declared}
use Rattle.terms.proofs.Signatures.{spelt_short}
use Rattle.reading.specs.declared.token.Mark.TheVariants.{Blank, LineEnd}
use Rattle.reading.specs.Tokens.{Tok, a_name, a_number, a_mark, token_bytes, tokens, whole}
use Rattle.reading.specs.Heading.{line_of, heading_text}
use Rattle.reading.specs.Laws.{AllDigits}
use Rattle.reading.proofs.Digits.{all_digits_decimal}
use Rattle.reading.proofs.Lexing.{Stops, front_is, tokens_first, tokens_name, stops_digit}

-- the tokens behind the first of a line: the others, each behind its blank, and the end of the line
abbrev pub follow : List Tok → List Tok
follow [] = a_mark LineEnd ∷ []
follow (k ∷ ks) = a_mark Blank ∷ (k ∷ follow ks)

abbrev pub line : List Tok → List Tok
line [] = a_mark LineEnd ∷ []
line (k ∷ ks) = k ∷ follow ks

-- each with a blank behind it
abbrev pub blanked : List Tok → List Tok
blanked [] = []
blanked (k ∷ ks) = k ∷ (a_mark Blank ∷ blanked ks)

-- each behind its blank
abbrev pub spread : List Tok → List Tok
spread [] = []
spread (k ∷ ks) = a_mark Blank ∷ (k ∷ spread ks)

-- a blank between two of them
abbrev pub spaced : List Tok → List Tok
spaced [] = []
spaced (k ∷ ks) = k ∷ spread ks

spread_push : (ks : List Tok) (k : Tok) → spread (ks ++ (k ∷ [])) ≡ a_mark Blank ∷ (blanked ks ++ (k ∷ []))
spread_push [] k = refl
spread_push (j ∷ ks) k = ap (λ l. a_mark Blank ∷ (j ∷ l)) (spread_push ks k)

spread_blank : (ks : List Tok) → spread ks ++ (a_mark Blank ∷ []) ≡ a_mark Blank ∷ blanked ks
spread_blank [] = refl
spread_blank (k ∷ ks) = ap (λ l. a_mark Blank ∷ (k ∷ l)) (spread_blank ks)

spread_end : (ks : List Tok) → spread ks ++ (a_mark LineEnd ∷ []) ≡ follow ks
spread_end [] = refl
spread_end (k ∷ ks) = ap (λ l. a_mark Blank ∷ (k ∷ l)) (spread_end ks)

-- one more, a blank behind the last, and the end of the line

pub spaced_push : (ks : List Tok) (k : Tok) → spaced (ks ++ (k ∷ [])) ≡ blanked ks ++ (k ∷ [])
spaced_push [] k = refl
spaced_push (j ∷ ks) k = ap (λ l. j ∷ l) (spread_push ks k)

pub spaced_blank : (ks : List Tok) → 1 ≤ length ks → blanked ks ≡ spaced ks ++ (a_mark Blank ∷ [])
spaced_blank [] h = absurd (omega arith)
spaced_blank (k ∷ ks) h = ap (λ l. k ∷ l) (sym (spread_blank ks))

pub spaced_end : (ks : List Tok) → line ks ≡ spaced ks ++ (a_mark LineEnd ∷ [])
spaced_end [] = refl
spaced_end (k ∷ ks) = ap (λ l. k ∷ l) (sym (spread_end ks))

abbrev pub name_tok : Op → Tok
name_tok o = a_name o.name

abbrev pub count_tok : Op → Tok
count_tok o = a_number (decimal o.arity)

abbrev pub heading_tokens : Sig → List Tok
heading_tokens sig = line (map name_tok sig) ++ line (map count_tok sig)

-- their bytes are the text

whole_append : (ks ls : List Tok) → whole (ks ++ ls) ≡ whole ks ++ whole ls
whole_append [] ls = refl
whole_append (k ∷ ks) ls = ap (λ l. token_bytes k ++ l) (whole_append ks ls) ∙ sym (append_assoc (token_bytes k) (whole ks) (whole ls))

whole_line : (k : Op → Tok) (sig : Sig) → whole (line (map k sig)) ≡ line_of (λ (o : Op). token_bytes (k o)) sig
whole_line k [] = refl
whole_line k (o ∷ []) = refl
whole_line k (o ∷ p ∷ os) = ap (λ l. token_bytes (k o) ++ (32 ∷ l)) (whole_line k (p ∷ os))

pub whole_heading : (sig : Sig) → whole (heading_tokens sig) ≡ heading_text sig
whole_heading sig = whole_append (line (map name_tok sig)) (line (map count_tok sig)) ∙ (λ i. whole_line name_tok sig i ++ whole_line count_tok sig i)

-- the text gives these tokens

digit_not_lower : (b : ℕ) → digit b ≡ true → lower b ≡ false
digit_not_lower b h = and_left (leb 97 b) (leb b 122) (lt-leb 97 b (omega (arith, leb-true b 57 (and_parts (leb 48 b) (leb b 57) h).1)))

pub tokens_number : (s r : List ℕ) → 0 < length s → AllDigits s → Stops word r → tokens (s ++ r) ≡ a_number s ∷ tokens r
tokens_number [] r n h e = absurd (omega arith)
tokens_number (b ∷ bs) r n h e =
    tokens_first b bs r (a_number (b ∷ bs))
    (cond-false _ _ _ (digit_not_lower b h.0) ∙ cond-true _ _ _ h.0 ∙ ap (λ l. a_number (b ∷ l)) (front_is digit (length (bs ++ r)) bs r h.1 (omega (arith, length-append bs r)) (stops_digit r e))) refl

-- a part's token is read, whatever follows that does not go on with it
abbrev pub Shows : {A : Type 0} → (A → List ℕ) → (A → Tok) → A → Type 0
Shows show k x = (r : List ℕ) → Stops word r → tokens (show x ++ r) ≡ k x ∷ tokens r

pub tokens_line : {A : Type 0} (show : A → List ℕ) (k : A → Tok) (xs : List A) → AllByRecursion (Shows show k) xs → (r : List ℕ) → tokens (line_of show xs ++ r) ≡ line (map k xs) ++ tokens r
tokens_line show k [] h r = refl
tokens_line show k (x ∷ []) h r = ap tokens (append_assoc (show x) (10 ∷ []) r) ∙ h.0 (10 ∷ r) refl
tokens_line show k (x ∷ y ∷ xs) h r =
    ap tokens (append_assoc (show x) (32 ∷ line_of show (y ∷ xs)) r)
    ∙ h.0 (32 ∷ (line_of show (y ∷ xs) ++ r)) refl
    ∙ ap (λ l. k x ∷ (a_mark Blank ∷ l)) (tokens_line show k (y ∷ xs) h.1 r)

module _ {sig : Sig} (good : Declared sig) where
  all_spelt : AllByRecursion (λ o. spelt o.name ≡ true) sig
  all_spelt = All-from_get_or (λ o. spelt o.name ≡ true) sig _ good.are_spelt

  pub all_ranked : AllByRecursion (λ o. o.arity ≤ 3) sig
  all_ranked = All-from_get_or (λ o. o.arity ≤ 3) sig _ good.are_ranked

  pub tokens_heading : (r : List ℕ) → tokens (heading_text sig ++ r) ≡ heading_tokens sig ++ tokens r
  tokens_heading r =
      let names : AllByRecursion (Shows (λ o. o.name) name_tok) sig = All-weaker (λ o. spelt o.name ≡ true) (Shows (λ o. o.name) name_tok) (λ o h r e. tokens_name o.name r h e) sig all_spelt in
      let counts : AllByRecursion (Shows (λ o. decimal o.arity) count_tok) sig = All-weaker (λ o. o.arity ≤ 3) (Shows (λ o. decimal o.arity) count_tok)
      (λ o h r e. tokens_number (decimal o.arity) r (decimal_nonempty o.arity (omega arith)) (all_digits_decimal o.arity (omega arith)) e) sig all_ranked in
      ap tokens (append_assoc (line_of (λ o. o.name) sig) (line_of (λ o. decimal o.arity) sig) r)
      ∙ tokens_line (λ o. o.name) name_tok sig names (line_of (λ o. decimal o.arity) sig ++ r)
      ∙ ap (λ l. line (map name_tok sig) ++ l) (tokens_line (λ o. decimal o.arity) count_tok sig counts r)
      ∙ sym (append_assoc (line (map name_tok sig)) (line (map count_tok sig)) (tokens r))

-- and is short

length-line : (show : Op → List ℕ) (sig : Sig) → AllByRecursion (λ o. length (show o) ≤ 12) sig → length (line_of show sig) ≤ 1 + 13 * length sig
length-line show [] h = omega arith
length-line show (o ∷ []) h = omega (arith, h.0, length-append (show o) (10 ∷ []))
length-line show (o ∷ p ∷ os) h = omega (arith, h.0, length-append (show o) (32 ∷ line_of show (p ∷ os)), length-line show (p ∷ os) h.1)

pub heading_short : {sig : Sig} → Declared sig → length sig ≤ 32 → length (heading_text sig) ≤ 32768
heading_short {sig} good few =
    let names = length-line (λ o. o.name) sig (All-weaker (λ o. spelt o.name ≡ true) (λ o. length o.name ≤ 12) (λ o h. spelt_short o.name h) sig (all_spelt good)) in
    let counts = length-line (λ o. decimal o.arity) sig (All-weaker (λ o. o.arity ≤ 3) (λ o. length (decimal o.arity) ≤ 12) (λ o h. omega (arith, ap length (decimal_digit o.arity (omega arith)))) sig (all_ranked good)) in
    omega (arith, length-append (line_of (λ o. o.name) sig) (line_of (λ o. decimal o.arity) sig))
