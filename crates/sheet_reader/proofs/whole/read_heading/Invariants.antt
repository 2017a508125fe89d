use Rattle.std.proofs.Common.{ℕ, ◌≤◌, List, length}
use Rattle.lexer.specs.Lexing.{what_is_left}
use Rattle.reader.specs.Heading.{head_of}
use Rattle.sheet_reading.specs.Reading.{headed}
use Rattle.sheet_reader.specs.Progress.{start, Reached}
use Rattle.sheet_reader.proofs.whole.read_heading.Given as goal

abbrev pub invariant-loop-lexer : goal.invariant-loop-lexer
invariant-loop-lexer l = (b : List ℕ) → length b ≤ 32768 → Reached b start l.fn.lexer → Reached b (headed (head_of l.heading)) l.lexer

abbrev pub decreases-loop-lexer : goal.decreases-loop-lexer
decreases-loop-lexer l = length (what_is_left l.lexer)
