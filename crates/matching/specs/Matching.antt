-- What matching a left side at a place answers.
use Rattle.std.specs.Prelude.{◌≡◌, ℕ, Bool, true, false, List, Option}
use Rattle.std.proofs.Math.Option.{none, some}
use Rattle.terms.specs.declared.node.Node.{Node}
use Rattle.terms.specs.Term.{Terms}
use Rattle.terms.specs.Rule.{Rule}
use Rattle.rewriting.specs.Bindings.{Bindings}
use Rattle.rewriting.specs.Next.{matching_all}
use Rattle.node_store.specs.Placed.{Placed, link, Holds, AreTerms}
use Rattle.node_store.specs.Loading.{arguments_of}
use Rattle.compiled.specs.declared.Plan.{Plan}
use Rattle.compiled.specs.Plans.{Planned}
use Rattle.matching.specs.Peeling.{Peeled}

-- the arguments match those of the left side, and these are the places of its symbols; or they do not match
abbrev pub Decides : Terms → Placed → Terms → List ℕ → Bool → Type 0
Decides left ks ts places true = (kept : List Placed) × (m : Bindings) × Peeled left ks places kept m × (matching_all left ts ≡ some m)
Decides left ks ts places false = matching_all left ts ≡ none

-- that is so for the rule of the plan, and for whatever row of arguments begins at the link
abbrev pub Matched : List Node → Plan → Option ℕ → List ℕ → Bool → Type 0
Matched ns p first places b = (r : Rule) (ks : Placed) (ts : Terms) → Planned r p → Holds ns ks → link ks ≡ first → AreTerms ks ts → Decides (arguments_of r.left) ks ts places b
