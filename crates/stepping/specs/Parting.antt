-- What becomes of the nodes that a left side matched.
use Rattle.std.specs.Prelude.{ℕ, List, [], ◌∷◌, Some, None, Option, slice_index_or}
use Rattle.terms.specs.declared.symbol.Symbol.{Symbol}
use Rattle.terms.specs.Nodes.{vacant}
use Rattle.node_store.specs.Memory.{Memory, given, freed_at, laid_over}
use Rattle.node_store.specs.Loading.{ended}
use Rattle.compiled.specs.declared.Check.{Check}
use Rattle.compiled.specs.declared.Source.{Source}
use Rattle.compiled.specs.declared.Source.TheVariants.{Made, Moved, Copied}

-- the node at a place is freed; or where a variable stands, it has no later siblings any more
abbrev pub parted_at : Memory → Option Symbol → ℕ → Memory
parted_at m (Some s) p = freed_at m p
parted_at m None p = ended m p

-- so at each place, by its check
abbrev pub parted : Memory → List Check → List ℕ → Memory
parted m [] ps = m
parted m (c ∷ cs) [] = m
parted m (c ∷ cs) (p ∷ ps) = parted (parted_at m c.symbol p) cs ps

-- the parts at the places of these numbers are given back, each of so many nodes
abbrev pub without : Memory → List ℕ → List ℕ → List ℕ → Memory
without m [] sizes places = m
without m (k ∷ ks) [] places = m
without m (k ∷ ks) (n ∷ ns) places = without (given m (slice_index_or places k 0) n) ks ns places

-- the node of the part at a place is freed, and what stood there stands at another place
abbrev pub moved_to : Memory → ℕ → ℕ → Memory
moved_to m from to = laid_over (freed_at m from) to (slice_index_or m.nodes from vacant).symbol (slice_index_or m.nodes from vacant).first

-- at a place stands a symbol over a row; or the part at the place of a number
abbrev pub finished : Memory → Source → ℕ → List ℕ → Option ℕ → Memory
finished m (Made s) place places row = laid_over m place (Some s) row
finished m (Moved k) place places row = moved_to m (slice_index_or places k 0) place
finished m (Copied k) place places row = moved_to m (slice_index_or places k 0) place
