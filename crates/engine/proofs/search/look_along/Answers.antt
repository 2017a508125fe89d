use Rattle.std.proofs.Common.{◌∷◌, Some, None, arith}
use Rattle.fixed_vec.specs.FixedVec.{content}
use Rattle.node_store.specs.Memory.{memory}
use Rattle.engine.specs.declared.visits.Visit.TheVariants.{Fresh}
use Rattle.engine.proofs.Looks.{going_look, looked_along, looked_too-long}
use Rattle.engine.proofs.search.look_along.Goals as goal

pub returns-in_default : goal.returns-in_default
returns-in_default c =
    looked_along (memory c.args.store.now) c.args.rules.now c.args.first (content c.args.todo.now) c.loop-n._n (content c.look_at.new.todo)
    (going_look (memory c.args.store.now) c.args.rules.now (Fresh c.args.first ∷ content c.args.todo.now) c.loop-n._n c.loop-n.place (content c.loop-n.todo) (content c.look_at.new.todo) None c.loop-n.invariant c.in_default.ensures)

pub loop-n-preserved : goal.loop-n-preserved
loop-n-preserved c =
    going_look (memory c.args.store.now) c.args.rules.now (Fresh c.args.first ∷ content c.args.todo.now) c.loop-n._n c.loop-n.place (content c.loop-n.todo) (content c.look_at.new.todo) (Some c.in-Some.further) c.loop-n.invariant c.in-Some.ensures

pub returns : goal.returns
returns c =
    looked_too-long (memory c.args.store.now) c.args.rules.now c.args.first (content c.args.todo.now) c.loop-n._n (Fresh c.loop-n.place ∷ content c.loop-n.todo) (content c.loop-n.todo) (omega arith) c.loop-n.invariant
