use Rattle.node_store.specs.Memory.{memory}
use Rattle.engine.proofs.Candidates.{all_left, one_tried, two_tried}
use Rattle.engine.proofs.search.narrowed.Goals as goal

pub returns-in_default : goal.returns-in_default
returns-in_default c = all_left (memory c.args.store.now) c.args.rules.now c.args.candidates c.args.first

pub returns-in_default-next : goal.returns-in_default-next
returns-in_default-next c = one_tried (memory c.args.store.now) c.args.rules.now c.args.candidates c.in-Some.place c.node-one.result c.node-one.ensures c.with_first.result c.both-fewer.result c.with_first.ensures c.both-fewer.ensures c.args.first c.in-Some.is

pub returns : goal.returns
returns c = two_tried (memory c.args.store.now) c.args.rules.now c.args.candidates c.in-Some.place c.node-one.result c.node-one.ensures c.with_first.result c.both-fewer.result c.with_first.ensures c.both-fewer.ensures c.in-Some-next.second c.in-Some-next.is c.node-two.result c.node-two.ensures c.with_second.result c.both.result c.with_second.ensures c.both.ensures c.args.first c.in-Some.is
