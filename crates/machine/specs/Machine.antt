-- The reference machine's state: how many nodes there are, and the entries.
use Rattle.std.specs.Prelude.{ℕ, ◌-◌, Bool, List, replicate, sum_by}
use Rattle.terms.specs.Term.{Term, symbols}
use Rattle.terms.specs.Signature.{Sig}
use Rattle.terms.specs.Rule.{Rule}
use Rattle.rewriting.specs.Next.{run}

-- what the machine takes from a sheet: its operators and its rules
pub record System : Type 0 where
  pub operators : Sig
  pub rules : List Rule

-- an entry is empty; or held, with the ticket it was entered from, the steps made since, and whether a reduce of it answered finished
pub data Entry : Type 0 where
  empty : Entry
  held : (ticket : Term) (steps : ℕ) (is_finished : Bool) → Entry

pub record Machine : Type 0 where
  pub nodes : ℕ
  pub entries : List Entry

-- so many nodes, and so many entries, all empty
abbrev pub opened : ℕ → ℕ → Machine
opened nodes entries = record { nodes = nodes; entries = replicate entries empty }

-- the symbols of the term of a held entry: of its ticket after that many next steps
abbrev pub symbols_of : List Rule → Entry → ℕ
symbols_of rules empty = 0
symbols_of rules (held t n f) = symbols (run rules n t)

-- those of the terms of all held entries
abbrev pub symbols_held : System → Machine → ℕ
symbols_held s m = sum_by (symbols_of s.rules) m.entries

-- the nodes less the symbols of the terms of all held entries
abbrev pub free_nodes : System → Machine → ℕ
free_nodes s m = m.nodes - symbols_held s m
