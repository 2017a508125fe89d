use Rattle.std.proofs.Common.{ap, ◌∙◌}
use Rattle.std.proofs.Math.Logic.{∥∥₁_elim, ∥∥₁_map}
use Rattle.std.proofs.Math.Nat.{ℕ_set}
use Rattle.node_store.specs.Memory.{memory}
use Rattle.node_store.specs.Sound.{held_at}
use Rattle.node_store.proofs.Helds.{held_set}
use Rattle.node_store.proofs.Givings.{no_root, gave}
use Rattle.pool.proofs.Pool.give.Goals as goal

pub returns-in_default-clause-answer : goal.returns-in_default-clause-answer
returns-in_default-clause-answer c = absurd (no_root (memory c.args.self.now.store) c.args.self.now.sound c.args.place c.if-not-is_root.ensures c.in_default.ensures)

pub returns-in_default-clause-held : goal.returns-in_default-clause-held
returns-in_default-clause-held c = absurd (no_root (memory c.args.self.now.store) c.args.self.now.sound c.args.place c.if-not-is_root.ensures c.in_default.ensures)

pub returns-in_default-clause-free : goal.returns-in_default-clause-free
returns-in_default-clause-free c = absurd (no_root (memory c.args.self.now.store) c.args.self.now.sound c.args.place c.if-not-is_root.ensures c.in_default.ensures)

pub invariant_of-self : goal.invariant_of-self
invariant_of-self c = record { sound = rw c.give.ensures (∥∥₁_map c.args.self.now.sound (λ s. (gave _ s c.args.place c.in-Some.n c.if-not-is_root.ensures c.in-Some.ensures).sound)) }

pub returns-clause-held : goal.returns-clause-held
returns-clause-held c = λ q. ap (λ m. held_at m.nodes q) c.give.ensures ∙ ∥∥₁_elim c.args.self.now.sound (held_set _ _) (λ s. (gave _ s c.args.place c.in-Some.n c.if-not-is_root.ensures c.in-Some.ensures).held q)

pub returns-clause-free : goal.returns-clause-free
returns-clause-free c = ap (λ m. m.free) c.give.ensures ∙ ∥∥₁_elim c.args.self.now.sound (ℕ_set _ _) (λ s. (gave _ s c.args.place c.in-Some.n c.if-not-is_root.ensures c.in-Some.ensures).free)
