-- Terms with the place of each of their nodes.
use Rattle.std.specs.Prelude.{◌≡◌, ℕ, ◌+◌, ◌<◌, ◌≤◌, ◌==◌, cond, List, length, Some, None, Option, slice_index_or}
use Rattle.terms.specs.declared.node.Node.{Node}
use Rattle.terms.specs.declared.symbol.Symbol.{Symbol}
use Rattle.terms.specs.declared.symbol.Symbol.TheVariants.{Variable, Instrument, Operator}
use Rattle.terms.specs.Term.{Term, variable, instrument, apply, Terms, nil, cons, how_many}
use Rattle.terms.specs.Nodes.{vacant}

-- a row of nodes: a place, what stands there, the row of its arguments, and the row of its later siblings
pub data Placed : Type 0 where
  none : Placed
  at : ℕ → Option Symbol → Placed → Placed → Placed

-- the place where a row begins
abbrev pub link : Placed → Option ℕ
link none = None
link (at i s ks us) = Some i

-- the nodes are as the row says
abbrev pub Holds : List Node → Placed → Type 0
Holds ns none = Unit {0}
Holds ns (at i s ks us) = (i < length ns) × (slice_index_or ns i vacant ≡ record { symbol = s; first = link ks; next = link us }) × Holds ns ks × Holds ns us

abbrev pub hit : ℕ → ℕ → ℕ
hit j i = cond (j == i) 1 0

-- how often a place is in a row
abbrev pub occ : ℕ → Placed → ℕ
occ j none = 0
occ j (at i s ks us) = hit j i + (occ j ks + occ j us)

-- how many nodes a row has
abbrev pub size : Placed → ℕ
size none = 0
size (at i s ks us) = 1 + (size ks + size us)

-- a symbol over a row of arguments is the term
abbrev mutual
  pub IsTerm : Option Symbol → Placed → Term → Type 0
  IsTerm s ks (variable x) = (s ≡ Some (Variable x)) × (ks ≡ none)
  IsTerm s ks (instrument n) = (s ≡ Some (Instrument n)) × (ks ≡ none)
  IsTerm s ks (apply f ts) = (s ≡ Some (Operator f)) × (how_many ts ≤ 3) × AreTerms ks ts

  -- the row has these terms
  pub AreTerms : Placed → Terms → Type 0
  AreTerms none nil = Unit {0}
  AreTerms none (cons t ts) = ⊥
  AreTerms (at i s ks us) nil = ⊥
  AreTerms (at i s ks us) (cons t ts) = IsTerm s ks t × AreTerms us ts

-- the held terms: the place of each root, its symbol, its arguments and the term
pub data Held : Type 0 where
  no_term : Held
  also : ℕ → Option Symbol → Placed → Term → Held → Held

-- the nodes are as the held terms say; the root of each is its own next sibling, and no other node is
abbrev pub AllHeld : List Node → Held → Type 0
AllHeld ns no_term = Unit {0}
AllHeld ns (also i s ks t h) = (i < length ns) × (slice_index_or ns i vacant ≡ record { symbol = s; first = link ks; next = Some i }) × Holds ns ks × IsTerm s ks t × AllHeld ns h

abbrev pub occs : ℕ → Held → ℕ
occs j no_term = 0
occs j (also i s ks t h) = hit j i + (occ j ks + occs j h)

abbrev pub sizes : Held → ℕ
sizes no_term = 0
sizes (also i s ks t h) = 1 + (size ks + sizes h)

-- the held term whose root is at a place
abbrev pub term_at : Held → ℕ → Option Term
term_at no_term q = None
term_at (also i s ks t h) q = cond (q == i) (Some t) (term_at h q)
