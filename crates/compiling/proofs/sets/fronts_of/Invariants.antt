use Rattle.std.proofs.Common.{◌≡◌, ℕ, ◌<◌, length, get_or, Some, None}
use Rattle.rule_set.specs.declared.RuleSet.{RuleSet}
use Rattle.sheet.specs.Sheet.{rules_of}
use Rattle.compiling.proofs.Noting.{NotedBefore}
use Rattle.compiling.proofs.sets.fronts_of.Given as goal

abbrev pub invariant-loop-rule : goal.invariant-loop-rule
invariant-loop-rule l = record {
  many : length l.operators ≡ 32;
  operators : (f : ℕ) (d : RuleSet) → f < 32 → NotedBefore (rules_of l.sheet) l.n l.rule (Some f) (get_or l.operators f d);
  others : NotedBefore (rules_of l.sheet) l.n l.rule None l.others;
}
