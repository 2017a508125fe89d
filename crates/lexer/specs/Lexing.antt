-- What the code's tokens and lexer stand for.
use Rattle.std.specs.Prelude.{◌≡◌, ℕ, ◌≤◌, List, [], ◌∷◌, ◌++◌, length, Some, None, Option}
use Rattle.lexer.specs.declared.token.Token.{Token}
use Rattle.lexer.specs.declared.token.Token.TheVariants.{Name, Number, Instrument, Variable, Mark, Stray}
use Rattle.lexer.specs.declared.token.Lexeme.{Lexeme}
use Rattle.lexer.specs.declared.token.Lexer.{Lexer}
use Rattle.reading.specs.Tokens.{Tok, a_name, a_number, an_instrument, a_variable, a_mark, a_stray, token_bytes, tokens, past}

-- a token by its bytes
abbrev pub meaning : Token → Tok
meaning (Name name) = a_name name.bytes.now
meaning (Number part) = a_number part.now
meaning (Instrument part) = an_instrument part.now
meaning (Variable x) = a_variable x
meaning (Mark m) = a_mark m
meaning (Stray b) = a_stray b

abbrev pub what_is_left : Lexer → List ℕ
what_is_left l = l.rest.now

-- a token was read: it is a part of the text, of one byte at least, and the lexer stands behind it
pub record ReadToken (l : Lexer) (x : Lexeme) (m : Lexer) : Type 0 where
  pub first : tokens (what_is_left l) ≡ meaning x.token ∷ tokens (what_is_left m)
  pub part : what_is_left l ≡ token_bytes (meaning x.token) ++ what_is_left m
  pub some_bytes : 1 ≤ length (token_bytes (meaning x.token))
  pub its_place : x.at ≡ l.at
  pub behind : m.at ≡ past l.at (meaning x.token)

-- the first token of the rest; or the end, where nothing changes
abbrev pub Lexed : Lexer → Option Lexeme → Lexer → Type 0
Lexed l None m = (what_is_left l ≡ []) × (what_is_left m ≡ []) × (m.at ≡ l.at)
Lexed l (Some x) m = ReadToken l x m
