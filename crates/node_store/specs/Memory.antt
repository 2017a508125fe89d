-- What a store is: its nodes, the mark from which on none was in use, the row of those given back, and how many are free.
use Rattle.std.specs.Prelude.{ℕ, ◌+◌, ◌-◌, ◌^◌, min, List, replicate, Some, None, Option, slice_index_or, slice_set}
use Rattle.terms.specs.declared.node.Node.{Node}
use Rattle.terms.specs.declared.symbol.Symbol.{Symbol}
use Rattle.terms.specs.Nodes.{vacant}
use Rattle.node_store.specs.declared.store.Store.{Store}

pub record Memory : Type 0 where
  pub nodes : List Node
  pub fresh : ℕ
  pub freed : Option ℕ
  pub free : ℕ

abbrev pub memory : Store → Memory
memory s = record { nodes = s.nodes.now; fresh = s.fresh; freed = s.freed; free = s.free }

-- so many vacant nodes, all of them free
abbrev pub cleared : ℕ → Memory
cleared n = record { nodes = replicate n vacant; fresh = 0; freed = None; free = n }

-- with another node at a place
abbrev pub written : Memory → ℕ → Node → Memory
written m p x = record { nodes = slice_set m.nodes p x; fresh = m.fresh; freed = m.freed; free = m.free }

-- a count, which stays within 64 bits
abbrev pub counted : ℕ → ℕ
counted n = min n (2 ^ 64 - 1)

-- with the node at a place, and all that hangs below it, n nodes together, ahead of the row of those given back
abbrev pub given : Memory → ℕ → ℕ → Memory
given m p n = record {
  nodes = slice_set m.nodes p (record { symbol = None; first = (slice_index_or m.nodes p vacant).first; next = m.freed });
  fresh = m.fresh;
  freed = Some p;
  free = counted (m.free + n);
}

-- with the node at a place alone, and nothing below it, ahead of the row of those given back
abbrev pub freed_at : Memory → ℕ → Memory
freed_at m p = record { nodes = slice_set m.nodes p (record { symbol = None; first = None; next = m.freed }); fresh = m.fresh; freed = Some p; free = counted (m.free + 1) }

-- with another next sibling of the node at a place
abbrev pub linked : Memory → ℕ → Option ℕ → Memory
linked m p l = written m p (record { symbol = (slice_index_or m.nodes p vacant).symbol; first = (slice_index_or m.nodes p vacant).first; next = l })

-- with another symbol at a place, and another row of arguments
abbrev pub laid_over : Memory → ℕ → Option Symbol → Option ℕ → Memory
laid_over m p s l = written m p (record { symbol = s; first = l; next = (slice_index_or m.nodes p vacant).next })
