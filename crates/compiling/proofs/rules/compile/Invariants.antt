use Rattle.fixed_vec.specs.FixedVec.{items}
use Rattle.sheet.specs.Sheet.{rules_of}
use Rattle.compiling.proofs.Compiling.{PlansOf}
use Rattle.compiling.proofs.rules.compile.Given as goal

abbrev pub invariant-loop-i : goal.invariant-loop-i
invariant-loop-i l = PlansOf (rules_of l.sheet) (items l.plans) l.i
