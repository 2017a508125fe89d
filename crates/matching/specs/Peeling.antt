-- Rows of a pattern and rows of nodes side by side.
use Rattle.std.specs.Prelude.{ℕ, suc, ◌+◌, cond, ◌==◌, List, [], ◌∷◌, Some, Option}
use Rattle.terms.specs.declared.symbol.Symbol.{Symbol}
use Rattle.terms.specs.declared.symbol.Symbol.TheVariants.{Instrument, Operator}
use Rattle.terms.specs.Term.{Term, variable, instrument, apply, Terms, nil, cons}
use Rattle.rewriting.specs.Bindings.{Bindings}
use Rattle.node_store.specs.Placed.{Placed, none, at, size, IsTerm}

-- the nodes are those of the pattern's rows under the bindings. Listed in reading order: the place of each symbol of the pattern; and for each variable a row of what it is bound to alone, and the term
pub data Peels : List Terms → List Placed → List ℕ → List Placed → Bindings → Type 0 where
  done : Peels [] [] [] [] []
  end : {pss : List Terms} {qs : List Placed} {ps : List ℕ} {kept : List Placed} {m : Bindings} → Peels pss qs ps kept m → Peels (nil ∷ pss) (none ∷ qs) ps kept m
  bind : {x q : ℕ} {s : Option Symbol} {ks us : Placed} {t : Term} {ts : Terms} {pss : List Terms} {qs : List Placed} {ps : List ℕ} {kept : List Placed} {m : Bindings}
      → IsTerm s ks t → Peels (ts ∷ pss) (us ∷ qs) ps kept m → Peels (cons (variable x) ts ∷ pss) (at q s ks us ∷ qs) (q ∷ ps) (at q s ks none ∷ kept) ((x, t) ∷ m)
  leaf : {n q : ℕ} {us : Placed} {ts : Terms} {pss : List Terms} {qs : List Placed} {ps : List ℕ} {kept : List Placed} {m : Bindings}
      → Peels (ts ∷ pss) (us ∷ qs) ps kept m → Peels (cons (instrument n) ts ∷ pss) (at q (Some (Instrument n)) none us ∷ qs) (q ∷ ps) kept m
  under : {f q : ℕ} {ks us : Placed} {fs ts : Terms} {pss : List Terms} {qs : List Placed} {ps : List ℕ} {kept : List Placed} {m : Bindings}
      → Peels (fs ∷ (ts ∷ pss)) (ks ∷ (us ∷ qs)) ps kept m → Peels (cons (apply f fs) ts ∷ pss) (at q (Some (Operator f)) ks us ∷ qs) (q ∷ ps) kept m

-- the nodes below a place are those of a left side's arguments under the bindings
abbrev pub Peeled : Terms → Placed → List ℕ → List Placed → Bindings → Type 0
Peeled ts ks = Peels (ts ∷ []) (ks ∷ [])

-- how many nodes the row has that begins at a place
abbrev pub size_at : List Placed → ℕ → ℕ
size_at [] p = 0
size_at (none ∷ qs) p = size_at qs p
size_at (at i s ks us ∷ qs) p = cond (p == i) (suc (size ks + size us)) (size_at qs p)
