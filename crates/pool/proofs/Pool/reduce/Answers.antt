use Rattle.std.proofs.Common.{sym}
use Rattle.std.proofs.Math.Logic.{∥∥₁_elim, ∥∥₁_map, ∥∥₁_prop}
use Rattle.node_store.specs.Memory.{memory}
use Rattle.pool.proofs.Reducings.{root_term, root_held, sound_after, reduced_from}
use Rattle.pool.proofs.Pool.reduce.Goals as goal

pub invariant_of-self : goal.invariant_of-self
invariant_of-self c =
    let m = memory c.args.self.now.store in
    let held = root_held m c.args.place (sym c.if-not-is_root.ensures) in
    record { sound = ∥∥₁_elim c.rules.ensures.lawful ∥∥₁_prop (λ f. ∥∥₁_map c.args.self.now.sound (λ s. sound_after m c.rules.result.now c.args.place c.args.allowed (memory c.reduce.new.store) c.reduce.result c.reduce.ensures (root_term m c.args.place) held f.signature f.rules f.over f.compiled s)) }

pub returns : goal.returns
returns c = λ sig rules over is.
    let m = memory c.args.self.now.store in
    let held = root_held m c.args.place (sym c.if-not-is_root.ensures) in
    (root_term m c.args.place, held, reduced_from m c.args.rules.now.rules c.args.place c.args.allowed (memory c.reduce.new.store) c.reduce.result (rw (sym c.rules.ensures.same) c.reduce.ensures) (root_term m c.args.place) held sig rules over is c.args.self.now.sound)
