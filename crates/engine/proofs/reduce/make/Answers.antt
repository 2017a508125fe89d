use Rattle.std.proofs.Common.{refl}
use Rattle.fixed_vec.specs.FixedVec.{items, content}
use Rattle.node_store.specs.Memory.{memory}
use Rattle.engine.proofs.Making.{not_made, always_made, now_made}
use Rattle.engine.proofs.reduce.make.Goals as goal

pub returns-then-not-has_room : goal.returns-then-not-has_room
returns-then-not-has_room c = λ sig rules h root s ks t g p found.
    not_made p found c.in-Some.plan.now (c.in-Some.ensures rules p.compiled) (items c.has_room.new.sizes) c.has_room.result c.has_room.ensures c.if-not-has_room.true (memory c.args.store.now) refl (content c.args.todo.now)

pub returns-in_default-step : goal.returns-in_default-step
returns-in_default-step c = λ sig rules h root s ks t g p found.
    absurd (always_made p found c.in-Some.plan.now (c.in-Some.ensures rules p.compiled) (items c.has_room.new.sizes) c.has_room.result c.has_room.ensures c.if-not-has_room.false (memory c.step.new.store) (content c.step.new.made) c.step.result c.step.ensures c.in_default-step.is)

pub returns : goal.returns
returns c = λ sig rules h root s ks t g p found.
    now_made p found c.in-Some.plan.now (c.in-Some.ensures rules p.compiled) (items c.has_room.new.sizes) c.has_room.result c.has_room.ensures c.if-not-has_room.false (memory c.step.new.store) (content c.step.new.made) c.step.result c.step.ensures (content c.revisit.new.todo) c.revisit.ensures
