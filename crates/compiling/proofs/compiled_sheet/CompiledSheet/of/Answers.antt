use Rattle.sheet.specs.Sheet.{operators_of, rules_of}
use Rattle.compiling.proofs.Lawful.{rule_over}
use Rattle.compiling.proofs.compiled_sheet.CompiledSheet.of.Goals as goal

pub invariant_of-result : goal.invariant_of-result
invariant_of-result c =
    let s = c.args.sheet.now in
    record { lawful = ∣ record { signature = operators_of s; rules = rules_of s; over = rule_over (operators_of s) (rules_of s) s.lawful; compiled = c.compile-rules.ensures } ∣₁ }
