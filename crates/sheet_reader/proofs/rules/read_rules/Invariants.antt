use Rattle.std.proofs.Common.{◌≡◌, ℕ, ◌-◌, false, List, length}
use Rattle.sheet.specs.Sheet.{operators_of, rules_of, is_admitted}
use Rattle.sheet_reading.specs.Values.{Grid}
use Rattle.sheet_reader.specs.Progress.{Reached}
use Rattle.sheet_reader.specs.Rules.{behind_rules}
use Rattle.sheet_reader.proofs.rules.read_rules.Given as goal

abbrev pub invariant-loop-lexeme : goal.invariant-loop-lexeme
invariant-loop-lexeme l = record {
  over : operators_of l.sheet ≡ operators_of l.fn.sheet;
  going : (b : List ℕ) (grid : Grid) → Reached b (behind_rules l.fn.sheet grid) l.fn.lexer → Reached b (behind_rules l.sheet grid) l.lexer;
  unjudged : is_admitted l.fn.sheet ≡ false → is_admitted l.sheet ≡ false;
}

abbrev pub decreases-loop-lexeme : goal.decreases-loop-lexeme
decreases-loop-lexeme l = 32 - length (rules_of l.sheet)
