use Rattle.std.proofs.Common.{arith}
use Rattle.node_store.proofs.Sounding.{as_cleared, most, more}
use Rattle.pool.proofs.Pool.new.Goals as goal

pub returns-then-nodes-gt-MOST-clause-none : goal.returns-then-nodes-gt-MOST-clause-none
returns-then-nodes-gt-MOST-clause-none c = more _ (omega (arith, c.if-nodes-gt-MOST.true))

pub invariant_of-result : goal.invariant_of-result
invariant_of-result c = record { sound = ∣ as_cleared _ _ c.new-store.ensures (most _ (omega (arith, c.if-nodes-gt-MOST.false))) ∣₁ }
