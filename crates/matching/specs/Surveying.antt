-- The places of a row.
use Rattle.std.specs.Prelude.{◌≡◌, ℕ, ◌≤◌, List, [], ◌∷◌, ◌++◌, Option}
use Rattle.terms.specs.declared.node.Node.{Node}
use Rattle.traversal.specs.Walks.{most_symbols}
use Rattle.node_store.specs.Placed.{Placed, none, at, link, Holds, size}

-- the places of a row's nodes in reading order
abbrev pub in_order : Placed → List ℕ
in_order none = []
in_order (at i s ks us) = i ∷ (in_order ks ++ in_order us)

-- they are listed, and nothing is left on the stack, for whatever row begins at the link, if it has at most the most symbols
abbrev pub Surveyed : List Node → Option ℕ → List ℕ → List ℕ → Type 0
Surveyed ns first order stack = (q : Placed) → Holds ns q → link q ≡ first → size q ≤ most_symbols → (order ≡ in_order q) × (stack ≡ [])
