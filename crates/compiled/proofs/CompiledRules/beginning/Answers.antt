use Rattle.std.proofs.Common.{arith}
use Rattle.compiled.proofs.CompiledRules.beginning.Goals as goal

pub returns-then-at-ge32 : goal.returns-then-at-ge32
returns-then-at-ge32 c = λ rules is. record {
  only = λ i member. let z : ⊥ = cc (member, c.none.ensures i) in absurd z;
  all = λ i known begins. absurd (omega (arith, is.low i c.args.operator known begins, c.from-at.ensures, c.if-at-ge32.true));
}
