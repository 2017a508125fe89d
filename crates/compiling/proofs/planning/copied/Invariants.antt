use Rattle.std.proofs.Common.{◌≡◌, take}
use Rattle.fixed_vec.specs.FixedVec.{items}
use Rattle.compiled.specs.Plans.{copied_in}
use Rattle.compiling.proofs.planning.copied.Given as goal

abbrev pub invariant-loop-piece : goal.invariant-loop-piece
invariant-loop-piece l = items l.copied ≡ copied_in (take l.piece-index l.pieces)
