-- A row of a right side, filled, in nodes.
use Rattle.std.specs.Prelude.{ℕ, ◌≤◌, List, [], ◌∷◌, ◌++◌, Some, Option}
use Rattle.terms.specs.declared.symbol.Symbol.{Symbol}
use Rattle.terms.specs.declared.symbol.Symbol.TheVariants.{Instrument, Operator}
use Rattle.terms.specs.Term.{Term, variable, instrument, apply, Terms, nil, cons, how_many}
use Rattle.terms.specs.Substitution.{Substitution}
use Rattle.node_store.specs.Placed.{Placed, none, at, IsTerm}

-- the nodes are those of the row under the substitution; the place of each of its symbols, in reading order
pub data Grown (σ : Substitution) : Terms → Placed → List ℕ → Type 0 where
  nothing : Grown σ nil none []
  part : {x q : ℕ} {s : Option Symbol} {ks us : Placed} {ts : Terms} {ps : List ℕ} → IsTerm s ks (σ x) → Grown σ ts us ps → Grown σ (cons (variable x) ts) (at q s ks us) (q ∷ ps)
  leaf : {n q : ℕ} {us : Placed} {ts : Terms} {ps : List ℕ} → Grown σ ts us ps → Grown σ (cons (instrument n) ts) (at q (Some (Instrument n)) none us) (q ∷ ps)
  node : {f q : ℕ} {ks us : Placed} {fs ts : Terms} {ps rs : List ℕ} → how_many fs ≤ 3 → Grown σ fs ks ps → Grown σ ts us rs → Grown σ (cons (apply f fs) ts) (at q (Some (Operator f)) ks us) (q ∷ (ps ++ rs))

-- the same of a term's arguments; what a variable stands for has arguments of its own
abbrev pub GrownUnder : Substitution → Term → Placed → List ℕ → Type 0
GrownUnder σ (variable x) ks ps = Unit {0}
GrownUnder σ (instrument n) ks ps = Grown σ nil ks ps
GrownUnder σ (apply f ts) ks ps = Grown σ ts ks ps
