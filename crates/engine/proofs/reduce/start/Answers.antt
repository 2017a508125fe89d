use Rattle.fixed_vec.specs.FixedVec.{content}
use Rattle.node_store.specs.Memory.{memory}
use Rattle.engine.proofs.Looks.{started}
use Rattle.engine.proofs.reduce.start.Goals as goal

pub returns : goal.returns
returns c = λ empty. started (memory c.args.store.now) c.args.place c.node.result (content c.args.todo.now) (content c.put.new.todo) (content c.put_row.new.todo) c.node.ensures empty c.put.ensures c.put_row.ensures
