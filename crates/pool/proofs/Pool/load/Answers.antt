use Rattle.std.proofs.Common.{◌≤◌, arith}
use Rattle.std.proofs.Math.Logic.{∥∥₁_elim, ∥∥₁_map}
use Rattle.std.proofs.Math.Nat.{ℕ_set}
use Rattle.node_store.specs.Memory.{memory}
use Rattle.node_store.proofs.Helds.{held_set}
use Rattle.node_store.proofs.Loadings.{fetched_sound}
use Rattle.pool.proofs.Pool.load.Goals as goal

pub invariant_of-self : goal.invariant_of-self
invariant_of-self g c =
    let (t, s, e) = c.in-Some.ensures in
    record { sound = ∥∥₁_map c.args.self.now.sound (λ w. fetched_sound _ _ t c.fetch.result (c.fetch.ensures w t s.0 e (omega (arith, c.if-n-free.false, c.free.ensures)))) }

pub returns-in_default-fetch : goal.returns-in_default-fetch
returns-in_default-fetch g c =
    let (t, s, e) = c.in-Some.ensures in
    absurd (∥∥₁_elim c.args.self.now.sound (λ (x y : ⊥). absurd x) (λ w. c.in_default-fetch.ensures w t s.0 e (omega (arith, c.if-n-free.false, c.free.ensures))))

pub returns : goal.returns
returns g c =
    let (t, s, e) = c.in-Some.ensures in
    let room : c.in-Some.n ≤ (memory c.args.self.now.store).free = omega (arith, c.if-n-free.false, c.free.ensures) in (
      t,
      s,
      record {
        new = ∥∥₁_elim c.args.self.now.sound (held_set _ _) (λ w. (c.in-Some-fetch.ensures w t s.0 e room).1.new);
        held = λ q. ∥∥₁_elim c.args.self.now.sound (held_set _ _) (λ w. (c.in-Some-fetch.ensures w t s.0 e room).1.held q);
        free = ∥∥₁_elim c.args.self.now.sound (ℕ_set _ _) (λ w. (c.in-Some-fetch.ensures w t s.0 e room).1.free);
      },
    )
