use Rattle.std.proofs.Math.Logic.{∥∥₁_map}
use Rattle.node_store.proofs.Givings.{held_stands}
use Rattle.pool.proofs.Pool.holds.Goals as goal

pub returns-clause-stands : goal.returns-clause-stands
returns-clause-stands c t e = ∥∥₁_map c.args.self.now.sound (λ s. held_stands _ s c.args.place t e)
