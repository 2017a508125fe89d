use Rattle.std.proofs.Common.{ℕ, List, []}
use Rattle.signature.specs.Declaring.{sig_of}
use Rattle.sheet_reading.specs.Values.{Grid}
use Rattle.sheet_reading.specs.Reading.{wants_value}
use Rattle.sheet_reader.specs.Weighings.{ValueComes}
use Rattle.sheet_reader.specs.Values.{InWeighing}
use Rattle.sheet_reader.proofs.Lines.{InLine}
use Rattle.sheet_reader.proofs.values.read_line.Given as goal

-- so many values of the line were read
abbrev pub invariant-loop-operator : goal.invariant-loop-operator
invariant-loop-operator l =
    (b : List ℕ) (from : ℕ) (grid : Grid) → InWeighing b (wants_value (sig_of l.signature) grid []) from l.line grid [] l.fn.lexer l.fn.weighing → ValueComes grid [] l.fn.lexer
    → InLine b (sig_of l.signature) from l.line grid l.operator l.lexer l.weighing
