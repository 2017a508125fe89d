-- What a term's nodes are made from: the places of its symbols in a view.
use Rattle.std.specs.Prelude.{◌≡◌, ℕ, ◌+◌, ◌==◌, ◌≤◌, cond, List, [], ◌∷◌, length, Some, None, Option}
use Rattle.terms.specs.Term.{Term, variable, instrument, apply, Terms, nil, cons, symbols}
use Rattle.terms.specs.View.{Answers, Stands}
use Rattle.traversal.specs.Walks.{most_symbols}
use Rattle.node_store.specs.Memory.{Memory, linked}
use Rattle.node_store.specs.Placed.{Placed, link, Held, AreTerms}
use Rattle.node_store.specs.Sound.{Sound, held_at}
use Rattle.node_store.specs.Work.{Work}

-- the arguments of a term
abbrev pub arguments_of : Term → Terms
arguments_of (variable x) = nil
arguments_of (instrument n) = nil
arguments_of (apply f ts) = ts

-- terms before others
abbrev pub before : Terms → Terms → Terms
before nil us = us
before (cons t ts) us = cons t (before ts us)

-- visiting places, the last first in the list: each time the first of the terms stands there, and its arguments take its place
pub data Visits (v : Answers) (start : Terms) : List ℕ → Terms → Type 0 where
  begin : Visits v start [] start
  visit : {ps : List ℕ} {p : ℕ} {t : Term} {us now : Terms} → Visits v start ps (cons t us) → Stands v p t → now ≡ before (arguments_of t) us → Visits v start (p ∷ ps) now

-- all symbols of the term are visited
abbrev pub Traced : Answers → ℕ → ℕ → List ℕ → List ℕ → Option (Unit {0}) → Type 0
Traced v p n old new r = (t : Term) → Stands v p t → symbols t ≡ n → n ≤ most_symbols → old ≡ [] → (r ≡ Some tt) × Visits v (cons t nil) new nil × (length new ≡ n)

-- the terms stand in a row of nodes, made of free ones
pub record Built (m : Memory) (h : Held) (qs : List Placed) (ts : Terms) (n : ℕ) (k : Memory) (l : Option ℕ) : Type 0 where
  pub new : Placed
  pub gone : Placed
  pub work : Work k h (new ∷ qs) gone
  pub begins : link new ≡ l
  pub terms : AreTerms new ts
  pub free : k.free + n ≡ m.free
  pub long : length k.nodes ≡ length m.nodes

-- without the next sibling of the node at a place
abbrev pub ended : Memory → ℕ → Memory
ended m p = linked m p None

-- the root at a place is marked as a held one
abbrev pub marked : Memory → ℕ → Memory
marked m p = linked m p (Some p)

-- the term is held at a place where none was, and all others are held as they were
pub record NowHeld (m : Memory) (t : Term) (k : Memory) (p : ℕ) : Type 0 where
  pub new : held_at m.nodes p ≡ None
  pub held : (q : ℕ) → held_at k.nodes q ≡ cond (q == p) (Some t) (held_at m.nodes q)
  pub free : k.free + symbols t ≡ m.free

-- the term is held at the place answered; there is room for it
abbrev pub Fetched : Memory → Term → Memory → Option ℕ → Type 0
Fetched m t k None = ⊥
Fetched m t k (Some p) = Sound k × NowHeld m t k p

-- the node of the symbol that stands at a place is made before a row whose first terms are its arguments, if a node is free
abbrev pub Adds : Answers → ℕ → Memory → Option ℕ → Memory → Option ℕ → Type 0
Adds v p m l k r =
    (h : Held) (q : Placed) (qs : List Placed) (g : Placed) (t : Term) (us : Terms) → Work m h (q ∷ qs) g → link q ≡ l → AreTerms q (before (arguments_of t) us) → Stands v p t → 1 ≤ m.free → length m.nodes ≤ 65536
    → Built m h qs (cons t us) 1 k r

-- the nodes of the term whose symbols stand at these places are made, if so many are free
abbrev pub Builds : Answers → List ℕ → Memory → Memory → Option ℕ → Type 0
Builds v order m k r =
    (h : Held) (qs : List Placed) (g : Placed) (t : Term) → Work m h qs g → Visits v (cons t nil) order nil → length order ≤ m.free → length m.nodes ≤ 65536 → Built m h qs (cons t nil) (length order) k r

-- the term of n symbols that stands at a place is held, if so many nodes are free
abbrev pub Fetches : Answers → ℕ → ℕ → Memory → Memory → Option ℕ → Type 0
Fetches v p n m k r = Sound m → (t : Term) → Stands v p t → symbols t ≡ n → n ≤ m.free → Fetched m t k r
