use Rattle.std.proofs.Common.{ℕ, List, []}
use Rattle.signature.specs.Declaring.{sig_of}
use Rattle.sheet_reading.specs.Values.{Grid}
use Rattle.sheet_reading.specs.Reading.{wants_value}
use Rattle.sheet_reader.specs.Weighings.{ValueComes}
use Rattle.sheet_reader.specs.Values.{InWeighing}
use Rattle.sheet_reader.proofs.Lines.{BetweenLines}
use Rattle.sheet_reader.proofs.values.read_weighing.Given as goal

-- so many lines were read
abbrev pub invariant-loop-line : goal.invariant-loop-line
invariant-loop-line l =
    (b : List ℕ) (from : ℕ) (grid : Grid) → InWeighing b (wants_value (sig_of l.signature) grid []) from 0 grid [] l.fn.lexer l.fn.weighing → ValueComes grid [] l.fn.lexer
    → BetweenLines b (sig_of l.signature) from grid l.line l.lexer l.weighing
