use Rattle.std.proofs.Common.{◌≡◌, reverse, ap, subst, arith}
use Rattle.fixed_vec.specs.FixedVec.{items, content}
use Rattle.node_store.specs.Memory.{memory}
use Rattle.engine.specs.declared.reduce.Stop.TheVariants.{Finished, Spent}
use Rattle.engine.specs.Reducing.{Reduces}
use Rattle.engine.proofs.Reductions.{no_step, ended_finished, ended_spent, ended_short, stepped_on}
use Rattle.engine.proofs.reduce.reduce.Goals as goal

pub loop-steps-init : goal.loop-steps-init
loop-steps-init c = no_step (memory c.args.store.now) c.args.rules.now c.args.place c.args.allowed (content c.start.new.todo) (c.start.ensures (ap reverse c.new-todo.ensures))

pub returns-in_default : goal.returns-in_default
returns-in_default c =
    ended_finished (memory c.args.store.now) c.args.rules.now c.args.place c.args.allowed c.loop-steps.steps (memory c.loop-steps.store) (content c.loop-steps.todo) c.loop-steps.invariant (items c.search.new.places) (content c.search.new.todo) c.in_default.ensures

pub returns-then-not-make : goal.returns-then-not-make
returns-then-not-make c =
    ended_short (memory c.args.store.now) c.args.rules.now c.args.place c.args.allowed c.loop-steps.steps (memory c.loop-steps.store) (content c.loop-steps.todo) c.loop-steps.invariant (items c.search.new.places) (content c.search.new.todo)
    c.in-Some.hit c.in-Some.ensures c.loop-steps-test.true (memory c.make.new.store) (content c.make.new.todo) c.if-not-make.ensures

pub loop-steps-preserved : goal.loop-steps-preserved
loop-steps-preserved c =
    stepped_on (memory c.args.store.now) c.args.rules.now c.args.place c.args.allowed c.loop-steps.steps (memory c.loop-steps.store) (content c.loop-steps.todo) c.loop-steps.invariant (items c.search.new.places) (content c.search.new.todo)
    c.in-Some.hit c.in-Some.ensures c.loop-steps-test.true (memory c.make.new.store) (content c.make.new.todo) c.if-not-make.ensures

pub returns-in-Some-search : goal.returns-in-Some-search
returns-in-Some-search c =
    let e : c.loop-steps.steps ≡ c.args.allowed = omega arith in
    subst (λ i. Reduces (memory c.args.store.now) c.args.rules.now c.args.place c.args.allowed (memory c.loop-steps.store) (record { steps = i; stop = Spent })) e
    (ended_spent (memory c.args.store.now) c.args.rules.now c.args.place c.args.allowed c.loop-steps.steps (memory c.loop-steps.store) (content c.loop-steps.todo) c.loop-steps.invariant (items c.search-2.new.places) (content c.search-2.new.todo)
    c.in-Some-search.field-0 c.in-Some-search.ensures e)

pub returns-in-None : goal.returns-in-None
returns-in-None c =
    let e : c.loop-steps.steps ≡ c.args.allowed = omega arith in
    subst (λ i. Reduces (memory c.args.store.now) c.args.rules.now c.args.place c.args.allowed (memory c.loop-steps.store) (record { steps = i; stop = Finished })) e
    (ended_finished (memory c.args.store.now) c.args.rules.now c.args.place c.args.allowed c.loop-steps.steps (memory c.loop-steps.store) (content c.loop-steps.todo) c.loop-steps.invariant (items c.search-2.new.places) (content c.search-2.new.todo) c.in-None.ensures)
