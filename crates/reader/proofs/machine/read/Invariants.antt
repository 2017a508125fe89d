use Rattle.std.proofs.Common.{◌≡◌, length}
use Rattle.lexer.specs.Lexing.{what_is_left}
use Rattle.reader.specs.Machine.{run_by}
use Rattle.reader.proofs.Going.{Going}
use Rattle.reader.proofs.machine.read.Given as goal

abbrev pub invariant-loop-lexeme : goal.invariant-loop-lexeme
invariant-loop-lexeme g l = record {
  kept : g.M.Machine.rules l.machine ≡ g.M.Machine.rules l.fn.machine;
  going : (s : _) → g.M.Machine.stands l.fn.machine s 0 → Going (g.M.Machine.rules l.machine).step (g.M.Machine.rules l.machine).end g.M.Machine.most_bytes (run_by (g.M.Machine.rules l.fn.machine) s l.text) (g.M.Machine.stands l.machine) l.lexer;
}

abbrev pub decreases-loop-lexeme : goal.decreases-loop-lexeme
decreases-loop-lexeme g l = length (what_is_left l.lexer)
