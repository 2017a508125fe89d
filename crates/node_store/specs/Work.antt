-- A store while terms are made in it: beside the held terms stand rows that are not held.
use Rattle.std.specs.Prelude.{◌≡◌, ℕ, ◌+◌, ◌-◌, ◌<◌, ◌≤◌, List, [], ◌∷◌, min, length, Some, None, Option, slice_index_or, slice_set}
use Rattle.terms.specs.declared.node.Node.{Node}
use Rattle.terms.specs.declared.symbol.Symbol.{Symbol}
use Rattle.terms.specs.Nodes.{vacant}
use Rattle.node_store.specs.Memory.{Memory}
use Rattle.node_store.specs.Placed.{Placed, none, at, link, Holds, occ, size, Held, AllHeld, occs}
use Rattle.node_store.specs.Sound.{unused}

-- the nodes are as the rows say
abbrev pub HoldAll : List Node → List Placed → Type 0
HoldAll ns [] = Unit {0}
HoldAll ns (q ∷ qs) = Holds ns q × HoldAll ns qs

-- how often a place is in the rows
abbrev pub occ_all : ℕ → List Placed → ℕ
occ_all j [] = 0
occ_all j (q ∷ qs) = occ j q + occ_all j qs

-- how many nodes the rows have
abbrev pub size_all : List Placed → ℕ
size_all [] = 0
size_all (q ∷ qs) = size q + size_all qs

-- each place is in exactly one held term or row, or given back, or was never in use, and the free nodes are counted
pub record Work (m : Memory) (h : Held) (qs : List Placed) (g : Placed) : Type 0 where
  pub terms : AllHeld m.nodes h
  pub rows : HoldAll m.nodes qs
  pub begins : link g ≡ m.freed
  pub row : Holds m.nodes g
  pub once : (j : ℕ) → occs j h + (occ_all j qs + (occ j g + unused m.fresh j)) ≡ 1
  pub blank : (j : ℕ) → m.fresh ≤ j → slice_index_or m.nodes j vacant ≡ vacant
  pub within : m.fresh ≤ length m.nodes
  pub count : size g + (length m.nodes - m.fresh) ≡ m.free

-- the nodes below the first one of a row
abbrev pub below : Placed → ℕ
below none = 0
below (at i s ks us) = size ks

-- the nodes given back are arranged in another way, and all else is as it was; at most n nodes are below the first one
pub record Turned (m : Memory) (h : Held) (qs : List Placed) (k : Memory) (n : ℕ) : Type 0 where
  pub gone : Placed
  pub work : Work k h qs gone
  pub few : below gone ≤ n
  pub free : k.free ≡ m.free
  pub long : length k.nodes ≡ length m.nodes

-- the first node of the row given back goes behind what hangs first below it
abbrev pub turned : Memory → ℕ → ℕ → Memory
turned m r k = record {
  nodes = slice_set (slice_set m.nodes r (record { symbol = (slice_index_or m.nodes r vacant).symbol; first = (slice_index_or m.nodes k vacant).next; next = (slice_index_or m.nodes r vacant).next })) k
      (record { symbol = (slice_index_or m.nodes k vacant).symbol; first = (slice_index_or m.nodes k vacant).first; next = Some r });
  fresh = m.fresh;
  freed = Some k;
  free = m.free;
}

-- the first node of the row given back is used for another node
abbrev pub reused : Memory → ℕ → Node → Memory
reused m p x = record { nodes = slice_set m.nodes p x; fresh = m.fresh; freed = (slice_index_or m.nodes p vacant).next; free = m.free - 1 }

-- the first node that was never in use is used
abbrev pub opened : Memory → Node → Memory
opened m x = record { nodes = slice_set m.nodes m.fresh x; fresh = m.fresh + 1; freed = m.freed; free = m.free - 1 }

-- the first place that was never in use
abbrev pub FirstUnused : Memory → Option ℕ → Type 0
FirstUnused m None = min (length m.nodes) 65536 ≤ m.fresh
FirstUnused m (Some p) = (p ≡ m.fresh) × (p < length m.nodes)

-- a node before two rows is made of a free one; or there is none
abbrev pub Joined : Memory → Held → Option Symbol → Placed → Placed → List Placed → Memory → Option ℕ → Type 0
Joined m h s a b qs k None = m.free ≡ 0
Joined m h s a b qs k (Some i) = (g : Placed) × Work k h (at i s a b ∷ qs) g × (k.free + 1 ≡ m.free) × (length k.nodes ≡ length m.nodes)

-- that is so whatever terms are held, whatever rows begin at the two links, and whatever others there are
abbrev pub Joins : Memory → Symbol → Option ℕ → Option ℕ → Memory → Option ℕ → Type 0
Joins m s first next k r = (h : Held) (a b : Placed) (qs : List Placed) (g : Placed) → Work m h (a ∷ b ∷ qs) g → link a ≡ first → link b ≡ next → length m.nodes ≤ 65536 → Joined m h (Some s) a b qs k r

-- nothing is below the first node of those given back, whatever is held beside them
abbrev pub Settles : Memory → Memory → Type 0
Settles m k = (h : Held) (qs : List Placed) (g : Placed) → Work m h qs g → Turned m h qs k 0
