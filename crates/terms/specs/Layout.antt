-- What a layout holds.
use Rattle.std.specs.Prelude.{◌≡◌, ℕ, ◌<◌, ◌≤◌, min, List, [], ◌∷◌, ◌++◌, length, Some, None, Option}
use Rattle.fixed_vec.specs.FixedVec.{items}
use Rattle.terms.specs.declared.node.Node.{Node}
use Rattle.terms.specs.declared.layout.Layout.{Layout}
use Rattle.terms.specs.Term.{Term}
use Rattle.terms.specs.Nodes.{laid}

-- the nodes that are in use
abbrev pub in_use : {N : ℕ} → Layout N → List Node
in_use l = items l.nodes

-- the nodes in use are those of the term, in reading order
abbrev pub LaysOut : {N : ℕ} → Layout N → Term → Type 0
LaysOut l t = in_use l ≡ laid 0 None t

-- a node is put behind those in use, and its place is answered; or there is no room for it, or no number for its place, and nothing changes
abbrev pub Pushed : ℕ → List Node → Node → List Node → Option ℕ → Type 0
Pushed N ns n ms None = (ms ≡ ns) × (min N 65536 ≤ length ns)
Pushed N ns n ms (Some p) = (ms ≡ ns ++ n ∷ []) × (p ≡ length ns) × (p < min N 65536)
