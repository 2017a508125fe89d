use Rattle.std.proofs.Common.{◌≡◌, ◌≤◌}
use Rattle.fixed_vec.specs.FixedVec.{items, content}
use Rattle.traversal.specs.Walks.{most_symbols}
use Rattle.node_store.specs.Memory.{memory}
use Rattle.node_store.specs.Placed.{Placed, link, Holds, size}
use Rattle.matching.proofs.Surveys.{Surveying}
use Rattle.matching.proofs.survey.survey.Given as goal

abbrev pub invariant-loop-n : goal.invariant-loop-n
invariant-loop-n l = (q : Placed) → Holds (memory l.store).nodes q → link q ≡ l.fn.first → size q ≤ most_symbols → Surveying (memory l.store).nodes q l._n (items l.scratch.order) l.current (content l.scratch.stack)
