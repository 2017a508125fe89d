use Rattle.std.proofs.Common.{reverse, ap, arith}
use Rattle.node_store.specs.Placed.{size}
use Rattle.node_store.proofs.Tracing.{small}
use Rattle.matching.proofs.Surveys.{survey_starts, survey_step, survey_ends, survey_full}
use Rattle.matching.proofs.survey.survey.Goals as goal

pub loop-n-init : goal.loop-n-init
loop-n-init c q h e few = survey_starts _ q _ _ _ h e c.clear.ensures (ap reverse c.clear-2.ensures)

pub returns-in_default : goal.returns-in_default
returns-in_default c q h e few = survey_ends _ q _ _ _ _ c.in_default.is (c.loop-n.invariant q h e few)

pub loop-n-preserved : goal.loop-n-preserved
loop-n-preserved c q h e few =
    survey_step _ q 16384 c.loop-n._n c.in-Some.place _ _ _ _ _ _ c.push.result c.node-node.result (small (size q) few) c.in-Some.is c.node-node.ensures c.push.ensures.last c.push.ensures.full c.onward-current.ensures (c.loop-n.invariant q h e few)

pub returns : goal.returns
returns c q h e few = survey_full _ q c.loop-n._n _ _ _ 16384 (small (size q) few) (omega arith) (c.loop-n.invariant q h e few)
