use Rattle.fixed_vec.specs.FixedVec.{content}
use Rattle.node_store.specs.Memory.{memory}
use Rattle.engine.proofs.Looks.{looked, looked_below, looked_past}
use Rattle.engine.proofs.search.look_at.Goals as goal

pub returns-then-not-is_empty : goal.returns-then-not-is_empty
returns-then-not-is_empty c = looked (memory c.args.store.now) c.args.rules.now c.args.place (content c.args.todo.now) c.node-node.result c.node-node.ensures (content c.put_row.new.todo) (content c.put.new.todo) c.put_row.ensures c.put.ensures

pub returns-then-is_none : goal.returns-then-is_none
returns-then-is_none c =
    looked_past (memory c.args.store.now) c.args.rules.now c.args.place (content c.args.todo.now) c.node-node.result c.node-node.ensures c.beginning.result (c.is_empty.ensures.0 c.if-not-is_empty.false) c.beginning.ensures c.if-is_none.ensures

pub returns : goal.returns
returns c =
    looked_below (memory c.args.store.now) c.args.rules.now c.args.place (content c.args.todo.now) c.node-node.result c.node-node.ensures c.beginning.result (c.is_empty.ensures.0 c.if-not-is_empty.false) c.beginning.ensures (content c.put_row-2.new.todo) c.put_row-2.ensures
