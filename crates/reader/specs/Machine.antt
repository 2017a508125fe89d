-- What a machine that reads a text token by token stands for, and what it answers.
use Rattle.std.specs.Prelude.{◌≡◌, ℕ, ◌<◌, ◌≤◌, List, length, Ok, Err, Result}
use Rattle.reading.specs.declared.token.At.{At}
use Rattle.reading.specs.Tokens.{Tok, token_bytes, tokens, origin, past}
use Rattle.reading.specs.Reading.{run_with}
use Rattle.lexer.specs.declared.token.Lexeme.{Lexeme}
use Rattle.lexer.specs.Lexing.{meaning}

-- the definition of a reading: a step for each token, and the end of the text
pub record Rules (S A E : Type 0) : Type 0 where
  pub step : S → At → Tok → Result S E
  pub end : S → At → Result A E

-- a text read from a state on
abbrev pub run_by : {S A E : Type 0} → Rules S A E → S → List ℕ → Result A E
run_by rules s text = run_with rules.step rules.end s origin (tokens text)

-- a token of one byte at least, within the first so many bytes
pub record IsWithin (limit : ℕ) (x : Lexeme) : Type 0 where
  pub some_bytes : 1 ≤ length (token_bytes (meaning x.token))
  pub in_reach : x.at.place < limit

-- after one token: the next state, for which the machine then stands; or the fault
abbrev pub Stepped : {S E : Type 0} → Result (Unit {0}) E → Result S E → (S → Type 0) → Type 0
Stepped {S} (Ok u) o Next = (s : S) × (o ≡ Ok s) × Next s
Stepped (Err e) o Next = o ≡ Err e

-- a token leads from each state that stood before to the next, which stands after it, behind the token; or to the fault
abbrev pub Advances : {S A E : Type 0} → Rules S A E → (S → ℕ → Type 0) → Lexeme → Result (Unit {0}) E → (S → ℕ → Type 0) → Type 0
Advances {S} rules before x r after = (s : S) → before s x.at.place → Stepped r (rules.step s x.at (meaning x.token)) (λ u. after u (past x.at (meaning x.token)).place)

-- at the end of the text: the value that was read, or the fault
abbrev pub Finished : {O A E : Type 0} → (O → A → Type 0) → Result O E → Result A E → Type 0
Finished {O} {A} gives (Ok x) o = (v : A) × (o ≡ Ok v) × gives x v
Finished gives (Err e) o = o ≡ Err e
