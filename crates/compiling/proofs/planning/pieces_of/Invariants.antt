use Rattle.std.proofs.Common.{◌≡◌, ◌∷◌, [], length, take}
use Rattle.fixed_vec.specs.FixedVec.{items}
use Rattle.terms.specs.Rule.{Rule}
use Rattle.compiled.specs.Symbols.{parts_under}
use Rattle.compiling.specs.Outlines.{OutlinesRule}
use Rattle.compiling.proofs.Outlines.{front}
use Rattle.compiling.proofs.Pieces.{pieces_along}
use Rattle.compiling.proofs.planning.pieces_of.Given as goal

abbrev pub invariant-loop-number : goal.invariant-loop-number
invariant-loop-number l = record {
  many : length (items l.pieces) ≡ l.number;
  made : (r : Rule) → OutlinesRule r l.left l.right → items l.pieces ≡ pieces_along (parts_under r.left) (front r.right ∷ []) (take l.number (items l.right.others));
}
