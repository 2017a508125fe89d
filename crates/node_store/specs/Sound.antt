-- The invariant of a pool, and what it holds.
use Rattle.std.specs.Prelude.{◌≡◌, ℕ, ◌+◌, ◌-◌, ◌*◌, ◌≤◌, cond, Bool, false, ◌==◌, nat_le, List, length, Some, None, Option, slice_index_or}
use Rattle.terms.specs.declared.node.Node.{Node}
use Rattle.terms.specs.Term.{Term, symbols}
use Rattle.terms.specs.Nodes.{vacant, node_answers}
use Rattle.terms.specs.Off.{read_off}
use Rattle.traversal.specs.Walks.{most_symbols}
use Rattle.node_store.specs.Memory.{Memory}
use Rattle.node_store.specs.Placed.{Placed, link, Holds, occ, size, Held, AllHeld, occs, sizes}

-- one for a place that was never in use
abbrev pub unused : ℕ → ℕ → ℕ
unused fresh j = cond (nat_le fresh j) 1 0

-- each place is in exactly one held term, or given back, or was never in use, and the free nodes are counted
pub record Sound (m : Memory) : Type 0 where
  pub held : Held
  pub gone : Placed
  pub terms : AllHeld m.nodes held
  pub begins : link gone ≡ m.freed
  pub row : Holds m.nodes gone
  pub once : (j : ℕ) → occs j held + occ j gone + unused m.fresh j ≡ 1
  pub blank : (j : ℕ) → m.fresh ≤ j → slice_index_or m.nodes j vacant ≡ vacant
  pub within : m.fresh ≤ length m.nodes
  pub count : size gone + (length m.nodes - m.fresh) ≡ m.free
  pub whole : sizes held + m.free ≡ length m.nodes
  pub few : length m.nodes ≤ most_symbols

-- whether a link leads to a place
abbrev pub leads : Option ℕ → ℕ → Bool
leads None p = false
leads (Some q) p = q == p

-- the term held at a place
abbrev pub held_at : List Node → ℕ → Option Term
held_at ns p = cond (leads (slice_index_or ns p vacant).next p) (Some (read_off (2 * most_symbols) (node_answers ns) p)) None

-- the symbols of a term that is held, or none
abbrev pub symbols_of : Option Term → ℕ
symbols_of None = 0
symbols_of (Some t) = symbols t
