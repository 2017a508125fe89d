-- The tokens of a text.
use Rattle.std.specs.Prelude.{ℕ, zero, suc, ◌+◌, ◌-◌, Bool, cond, ◌&&◌, List, [], ◌∷◌, ◌++◌, length, Some, None, Option, ◌==◌, nat_le}
use Rattle.terms.specs.Signature.{lower, digit, word}
use Rattle.reading.specs.declared.token.At.{At}
use Rattle.reading.specs.declared.token.Mark.{Mark}
use Rattle.reading.specs.declared.token.Mark.TheVariants.{Opening, Closing, Comma, Equals, Dash, Blank, LineEnd}

-- a token by its bytes; an instrument's begin with '#'; variables are numbered from 0, for 'A'
pub data Tok : Type 0 where
  a_name : List ℕ → Tok
  a_number : List ℕ → Tok
  an_instrument : List ℕ → Tok
  a_variable : ℕ → Tok
  a_mark : Mark → Tok
  a_stray : ℕ → Tok

-- the longest front whose bytes are all of one class, of so many bytes at most
abbrev pub front : (ℕ → Bool) → ℕ → List ℕ → List ℕ
front p zero bs = []
front p (suc k) [] = []
front p (suc k) (b ∷ bs) = cond (p b) (b ∷ front p k bs) []

-- a byte that is a token by itself, or none
abbrev pub single : ℕ → Tok
single b =
    cond (nat_le 65 b && nat_le b 72) (a_variable (b - 65))
    (cond (b == 40) (a_mark Opening)
    (cond (b == 41) (a_mark Closing)
    (cond (b == 44) (a_mark Comma)
    (cond (b == 61) (a_mark Equals)
    (cond (b == 45) (a_mark Dash)
    (cond (b == 32) (a_mark Blank)
    (cond (b == 10) (a_mark LineEnd) (a_stray b))))))))

-- the token that begins with b before bs: a name has at most 12 bytes, a number runs on as far as the digits go
abbrev pub first_token : ℕ → List ℕ → Tok
first_token b bs =
    cond (lower b) (a_name (b ∷ front word 11 bs))
    (cond (digit b) (a_number (b ∷ front digit (length bs) bs))
    (cond (b == 35) (an_instrument (b ∷ front digit (length bs) bs)) (single b)))

-- the first token of a text, if it is not empty
abbrev pub first_of_text : List ℕ → Option Tok
first_of_text [] = None
first_of_text (b ∷ bs) = Some (first_token b bs)

abbrev pub mark_byte : Mark → ℕ
mark_byte Opening = 40
mark_byte Closing = 41
mark_byte Comma = 44
mark_byte Equals = 61
mark_byte Dash = 45
mark_byte Blank = 32
mark_byte LineEnd = 10

-- the bytes of a token
abbrev pub token_bytes : Tok → List ℕ
token_bytes (a_name s) = s
token_bytes (a_number s) = s
token_bytes (an_instrument s) = s
token_bytes (a_variable x) = (65 + x) ∷ []
token_bytes (a_mark m) = mark_byte m ∷ []
token_bytes (a_stray b) = b ∷ []

-- the tokens behind the first k bytes
abbrev pub tokens_from : ℕ → List ℕ → List Tok
tokens_from k [] = []
tokens_from zero (b ∷ bs) = first_token b bs ∷ tokens_from (length (token_bytes (first_token b bs)) - 1) bs
tokens_from (suc k) (b ∷ bs) = tokens_from k bs

-- the tokens of a text
abbrev pub tokens : List ℕ → List Tok
tokens = tokens_from 0

-- the bytes of some tokens
abbrev pub whole : List Tok → List ℕ
whole [] = []
whole (k ∷ ks) = token_bytes k ++ whole ks

-- a line end is the last token of its line
abbrev pub mark_lines : Mark → ℕ
mark_lines Opening = 0
mark_lines Closing = 0
mark_lines Comma = 0
mark_lines Equals = 0
mark_lines Dash = 0
mark_lines Blank = 0
mark_lines LineEnd = 1

abbrev pub lines : Tok → ℕ
lines (a_name s) = 0
lines (a_number s) = 0
lines (an_instrument s) = 0
lines (a_variable x) = 0
lines (a_mark m) = mark_lines m
lines (a_stray b) = 0

-- where a text begins
abbrev pub origin : At
origin = record { place = 0; line = 0 }

-- the place and the line behind a token
abbrev pub past : At → Tok → At
past at k = record { place = at.place + length (token_bytes k); line = at.line + lines k }
