use Rattle.std.proofs.Common.{◌≡◌, drop}
use Rattle.fixed_vec.specs.FixedVec.{items, content}
use Rattle.terms.specs.Term.{Terms}
use Rattle.terms.specs.Rule.{Rule}
use Rattle.node_store.specs.Memory.{memory}
use Rattle.node_store.specs.Placed.{Placed, link, Holds, AreTerms}
use Rattle.node_store.specs.Loading.{arguments_of}
use Rattle.compiled.specs.Plans.{Planned}
use Rattle.matching.proofs.Matches.{Underway}
use Rattle.matching.proofs.places.matches.Given as goal

abbrev pub invariant-loop-check : goal.invariant-loop-check
invariant-loop-check l =
    (r : Rule) (ks : Placed) (ts : Terms) → Planned r l.plan → Holds (memory l.store).nodes ks → link ks ≡ l.fn.first → AreTerms ks ts
    → Underway (memory l.store).nodes (arguments_of r.left) ks ts (items l.places) (drop l.check-index l.check-items) l.current (content l.later)
