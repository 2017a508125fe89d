use Rattle.std.proofs.Common.{◌≡◌, ℕ, ◌<◌, length, get_or}
use Rattle.rule_set.specs.declared.RuleSet.{RuleSet}
use Rattle.sheet.specs.Sheet.{rules_of}
use Rattle.compiling.proofs.Beginnings.{BeginsBefore}
use Rattle.compiling.proofs.sets.begins.Given as goal

abbrev pub invariant-loop-rule : goal.invariant-loop-rule
invariant-loop-rule l = record {
  many : length l.begins ≡ 32;
  so_far : (f : ℕ) (d : RuleSet) → f < 32 → BeginsBefore (rules_of l.sheet) f l.rule (get_or l.begins f d);
}
