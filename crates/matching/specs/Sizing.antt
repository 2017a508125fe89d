-- How many nodes terms have.
use Rattle.std.specs.Prelude.{◌≡◌, ℕ, suc, ◌+◌, ◌≤◌, List, [], ◌∷◌, sum, slice_index_or}
use Rattle.terms.specs.declared.node.Node.{Node}
use Rattle.terms.specs.Nodes.{vacant}
use Rattle.traversal.specs.Walks.{most_symbols}
use Rattle.node_store.specs.Memory.{counted}
use Rattle.node_store.specs.Placed.{Placed, link, Holds, size}

-- the root at a place and the row of its arguments have so many nodes
abbrev pub Sized : List Node → ℕ → ℕ → Type 0
Sized ns p n = (q : Placed) × Holds ns q × (link q ≡ (slice_index_or ns p vacant).first) × (size q ≤ most_symbols) × (n ≡ suc (size q))

-- so have those at the places of these numbers
abbrev pub AllSized : List Node → List ℕ → List ℕ → List ℕ → Type 0
AllSized ns places [] [] = Unit {0}
AllSized ns places [] (n ∷ sizes) = ⊥
AllSized ns places (k ∷ ks) [] = ⊥
AllSized ns places (k ∷ ks) (n ∷ sizes) = Sized ns (slice_index_or places k 0) n × AllSized ns places ks sizes

-- their sizes are listed
abbrev pub Lists : List Node → List ℕ → List ℕ → List ℕ → Type 0
Lists ns places ks listed = (sizes : List ℕ) → AllSized ns places ks sizes → listed ≡ sizes

-- they are counted onto a number, as far as 64 bits go
abbrev pub CountsOnto : ℕ → List Node → List ℕ → List ℕ → ℕ → Type 0
CountsOnto n ns places ks result = (sizes : List ℕ) → AllSized ns places ks sizes → result ≡ counted (n + sum sizes)
