-- What reading values keeps.
use Rattle.std.specs.Prelude.{◌≡◌, ℕ, ◌+◌, ◌%◌, ◌<◌, List, [], ◌∷◌, ◌++◌, length, Option}
use Rattle.terms.specs.Signature.{Sig, op_of}
use Rattle.lexer.specs.declared.token.Lexer.{Lexer}
use Rattle.weighing.specs.declared.Weighing.{Weighing}
use Rattle.sheet_reading.specs.Values.{Value, Grid, range_of}
use Rattle.sheet_reading.specs.Reading.{Stand, wants_value}
use Rattle.sheet_reader.specs.Progress.{Reached}
use Rattle.sheet_reader.specs.Weighings.{Weighs, ValueComes}

-- a value in this range must come, or '-' where there is none
pub record Awaits (b : List ℕ) (sig : Sig) (grid : Grid) (vs : List Value) (range : Option (ℕ × ℕ)) (l : Lexer) : Type 0 where
  pub reached : Reached b (wants_value sig grid vs) l
  pub comes : ValueComes grid vs l
  pub few_lines : length grid < 8
  pub its_range : range_of (length grid) (op_of sig (length vs)).arity ≡ range

-- in the weighing whose lines begin behind so many others: the lines of a grid were read, so many of them its own, and the first values of its next line, and it has them
pub record InWeighing (b : List ℕ) (s : Stand) (from line : ℕ) (grid : Grid) (vs : List Value) (l : Lexer) (w : Weighing) : Type 0 where
  pub reached : Reached b s l
  pub weighs : Weighs w (grid ++ vs ∷ []) from
  pub lines : length grid ≡ from + line
  pub whole_weighings : from % 4 ≡ 0
  pub one_or_two : from < 8
