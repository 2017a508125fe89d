use Rattle.std.proofs.Math.Logic.{∥∥₁_elim}
use Rattle.std.proofs.Math.Bridge.{le_prop}
use Rattle.node_store.proofs.Sounding.{as_cleared}
use Rattle.pool.proofs.Pool.clear.Goals as goal

pub invariant_of-self : goal.invariant_of-self
invariant_of-self c = record { sound = ∣ as_cleared _ _ c.clear.ensures (∥∥₁_elim c.args.self.now.sound le_prop (λ s. s.few)) ∣₁ }
