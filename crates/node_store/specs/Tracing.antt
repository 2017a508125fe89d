-- A trace under way, and nodes that are made along it.
use Rattle.std.specs.Prelude.{◌≡◌, ℕ, ◌+◌, Option, List, length}
use Rattle.terms.specs.Term.{Term, Terms, nil, cons, symbols_in}
use Rattle.terms.specs.View.{Answers}
use Rattle.traversal.specs.Rows.{StandAll}
use Rattle.node_store.specs.Loading.{Visits, Built}
use Rattle.node_store.specs.Memory.{Memory}
use Rattle.node_store.specs.Placed.{Placed, Held}

-- k of the n symbols of the term are visited, and the rest of it stands at the places of the stack
pub record Tracing (v : Answers) (t : Term) (n k : ℕ) (order stack : List ℕ) : Type 0 where
  pub now : Terms
  pub visits : Visits v (cons t nil) order now
  pub stand : StandAll v stack now
  pub many : length order ≡ k
  pub sum : k + symbols_in now ≡ n

-- k symbols are made, the last first, and these are left
pub record Building (v : Answers) (m : Memory) (h : Held) (qs : List Placed) (t : Term) (n k : ℕ) (order : List ℕ) (now_m : Memory) (head : Option ℕ) : Type 0 where
  pub now : Terms
  pub visits : Visits v (cons t nil) order now
  pub built : Built m h qs now k now_m head
  pub sum : k + length order ≡ n
