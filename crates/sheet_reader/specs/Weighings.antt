-- What is read of the lines of values.
use Rattle.std.specs.Prelude.{◌≡◌, ℕ, ◌+◌, ◌<◌, true, false, Bool, List, [], ◌∷◌, codes}
use Rattle.terms.specs.Signature.{Sig}
use Rattle.lexer.specs.declared.token.Lexer.{Lexer}
use Rattle.lexer.specs.Lexing.{what_is_left}
use Rattle.reading.specs.Tokens.{Tok, tokens}
use Rattle.weighing.specs.declared.Weighing.{Weighing}
use Rattle.weighing.specs.Weighing.{value_at}
use Rattle.sheet_reading.specs.Values.{Value, Grid, cell}
use Rattle.sheet_reading.specs.Reading.{Stand, wants_value, has_value, has_word, is_word, rules_may_come}
use Rattle.sheet_reader.specs.Progress.{Reached}

-- a weighing has the values of four lines, from the one of this number on
abbrev pub Weighs : Weighing → Grid → ℕ → Type 0
Weighs w grid from = (line f : ℕ) → line < 4 → value_at w line f ≡ cell grid (from + line) f

-- the next token is not the word 'rules'
abbrev pub NoWord : Lexer → Type 0
NoWord l = (k : Tok) (ks : List Tok) → tokens (what_is_left l) ≡ k ∷ ks → is_word (codes "rules") k ≡ false

-- a value comes, even where the word might
abbrev pub ValueComes : Grid → List Value → Lexer → Type 0
ValueComes grid vs l = rules_may_come grid vs ≡ true → NoWord l

-- behind the first values of a line
abbrev pub in_line : Sig → Grid → List Value → Stand
in_line sig grid [] = wants_value sig grid []
in_line sig grid (v ∷ vs) = has_value sig grid (v ∷ vs)

-- the word 'rules' was taken where it may come; or it does not come, and nothing was taken
abbrev pub TakesWord : Lexer → Bool → Lexer → Type 0
TakesWord l true m = (b : List ℕ) (sig : Sig) (grid : Grid) → rules_may_come grid [] ≡ true → Reached b (wants_value sig grid []) l → Reached b (has_word sig grid) m
TakesWord l false m = (m ≡ l) × NoWord l
