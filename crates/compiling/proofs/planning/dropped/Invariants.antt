use Rattle.std.proofs.Common.{◌≡◌, ◌∷◌, map, take}
use Rattle.fixed_vec.specs.FixedVec.{items}
use Rattle.terms.specs.Rule.{Rule}
use Rattle.compiled.specs.Symbols.{parts_under}
use Rattle.compiled.specs.Plans.{dropped_from}
use Rattle.compiling.specs.Outlines.{OutlinesRule, leaf}
use Rattle.compiling.proofs.planning.dropped.Given as goal

abbrev pub invariant-loop-number : goal.invariant-loop-number
invariant-loop-number l = (r : Rule) → OutlinesRule r l.left l.right → items l.dropped ≡ dropped_from 0 (map leaf (take l.number (items l.left.others))) (r.right ∷ parts_under r.right)
