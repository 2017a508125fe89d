-- The loop that reads a text token by token.
use Rattle.std.proofs.Common.{◌≡◌, ℕ, ◌+◌, ◌≤◌, length, Ok, Err, Result, ap}
use Rattle.std.specs.Result.{IsErrAnd}
use Rattle.reading.specs.declared.token.At.{At}
use Rattle.reading.specs.Tokens.{Tok, tokens}
use Rattle.reading.specs.Reading.{run_with}
use Rattle.lexer.specs.declared.token.Lexer.{Lexer}
use Rattle.lexer.specs.Lexing.{what_is_left}

-- a result that is an error, and that one
pub is_err : {O E : Type 0} (r : Result O E) (f : E) → IsErrAnd r (λ e. e ≡ f) → r ≡ Err f
is_err (Ok x) f h = absurd h
is_err (Err e) f h = ap Err h

module _ {S A E : Type 0} (step : S → At → Tok → Result S E) (end : S → At → Result A E) where
  -- a state stands at the lexer's place from which the rest of a text, of so many bytes at most, is read as the whole text is
  pub record Going (limit : ℕ) (whole : Result A E) (stands : S → ℕ → Type 0) (l : Lexer) : Type 0 where
    pub state : S
    pub holds : stands state l.at.place
    pub within : l.at.place + length (what_is_left l) ≤ limit
    pub same : run_with step end state l.at (tokens (what_is_left l)) ≡ whole
