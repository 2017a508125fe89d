-- Copying a part in nodes.
use Rattle.std.specs.Prelude.{◌≡◌, ℕ, ◌+◌, ◌<◌, ◌≤◌, Bool, true, false, List, ◌∷◌, length, Some, None, Option, is_some, slice_index_or}
use Rattle.std.specs.List.{cons_option}
use Rattle.fixed_vec.specs.FixedVec.{Removed}
use Rattle.terms.specs.declared.symbol.Symbol.{Symbol}
use Rattle.terms.specs.Term.{Term, symbols}
use Rattle.terms.specs.Nodes.{vacant}
use Rattle.traversal.specs.Walks.{most_symbols}
use Rattle.node_store.specs.Memory.{Memory}
use Rattle.node_store.specs.Placed.{Placed, none, at, link, IsTerm, Held}
use Rattle.node_store.specs.Work.{Work}

-- the top of a stack is taken off, if it is wanted
abbrev pub Taken : Bool → List ℕ → List ℕ → Option ℕ → Type 0
Taken true before after r = Removed before after r
Taken false before after r = (after ≡ before) × (r ≡ None)

-- a new node stands over one row and before another, and on top of the stack in place of their links
pub record Repeated (m : Memory) (h : Held) (s : Symbol) (a b : Placed) (rest : List ℕ) (qs : List Placed) (k : Memory) (after : List ℕ) (r : Option (Unit {0})) : Type 0 where
  pub place : ℕ
  pub gone : Placed
  pub answer : r ≡ Some tt
  pub stacked : after ≡ place ∷ rest
  pub work : Work k h (at place (Some s) a b ∷ qs) gone
  pub free : k.free + 1 ≡ m.free
  pub long : length k.nodes ≡ length m.nodes

-- that is so for the symbol at a place, if there are rows for its arguments and its siblings where it has them, and if a node is free
abbrev pub Repeats : Memory → ℕ → List ℕ → Memory → List ℕ → Option (Unit {0}) → Type 0
Repeats m p before k after r =
    (h : Held) (s : Symbol) (a b : Placed) (rest : List ℕ) (qs : List Placed) (g : Placed) → (slice_index_or m.nodes p vacant).symbol ≡ Some s → is_some (slice_index_or m.nodes p vacant).first ≡ is_some (link a) → is_some (slice_index_or m.nodes p vacant).next ≡ is_some (link b)
    → before ≡ cons_option (link a) (cons_option (link b) rest) → length before < most_symbols → Work m h (a ∷ b ∷ qs) g → 1 ≤ m.free → length m.nodes ≤ most_symbols → Repeated m h s a b rest qs k after r

-- the part at a place stands in new nodes too, before a row
pub record Copied (m : Memory) (h : Held) (p : ℕ) (s : Option Symbol) (ks : Placed) (t : Term) (b : Placed) (qs : List Placed) (k : Memory) (r : Option ℕ) : Type 0 where
  pub place : ℕ
  pub row : Placed
  pub gone : Placed
  pub answer : r ≡ Some place
  pub is : IsTerm s row t
  pub work : Work k h (at place s row b ∷ at p s ks none ∷ qs) gone
  pub free : k.free + symbols t ≡ m.free
  pub long : length k.nodes ≡ length m.nodes

-- that is so for whatever part stands at the place, and whatever row begins at the link, if there are the nodes
abbrev pub Copies : Memory → ℕ → Option ℕ → Memory → Option ℕ → Type 0
Copies m p next k r =
    (h : Held) (s : Option Symbol) (ks : Placed) (t : Term) (b : Placed) (qs : List Placed) (g : Placed) → Work m h (b ∷ at p s ks none ∷ qs) g → link b ≡ next → IsTerm s ks t → symbols t ≤ m.free → length m.nodes ≤ most_symbols
    → Copied m h p s ks t b qs k r
