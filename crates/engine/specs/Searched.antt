-- What a stack of visits leaves to be searched in a row of nodes, and how far it is known that no rule matches.
use Rattle.std.specs.Prelude.{◌≡◌, ℕ, suc, ◌+◌, ◌*◌, List, [], ◌∷◌, Some, None, Option}
use Rattle.std.proofs.Math.Option.{none as nothing}
use Rattle.terms.specs.declared.symbol.Symbol.{Symbol}
use Rattle.terms.specs.Term.{Term, Terms, nil, cons}
use Rattle.terms.specs.Rule.{Rule}
use Rattle.rewriting.specs.Next.{contracted, next}
use Rattle.node_store.specs.Placed.{Placed, none, at, size, IsTerm}
use Rattle.node_store.specs.Loading.{arguments_of}
use Rattle.engine.specs.declared.visits.Visit.{Visit}
use Rattle.engine.specs.declared.visits.Visit.TheVariants.{Fresh, Reached}

-- a visit to the row at a link, if one begins there, before others
abbrev pub ahead : Option ℕ → List Visit → List Visit
ahead None vs = vs
ahead (Some i) vs = Fresh i ∷ vs

-- no rule matches where the symbol stands, whatever its arguments are
abbrev pub Idle : List Rule → Option Symbol → Type 0
Idle rules s = (ks : Placed) (t : Term) → IsTerm s ks t → contracted rules t ≡ nothing

-- the first visits, those before others, search a row: in a number of turns, each node of it at which a rule may match after its arguments
pub data Searched (rules : List Rule) : Placed → Terms → ℕ → List Visit → List Visit → Type 0 where
  through : {vs : List Visit} → Searched rules none nil 0 vs vs
  fresh : {i : ℕ} {s : Option Symbol} {ks us : Placed} {ts : Terms} {vs : List Visit} → Searched rules (at i s ks us) ts (2 * size (at i s ks us)) (Fresh i ∷ vs) vs
  reached : {i : ℕ} {s : Option Symbol} {ks us : Placed} {t : Term} {ts : Terms} {n m : ℕ} {vs ws xs : List Visit}
      → Searched rules ks (arguments_of t) n vs (Reached i ∷ ws) → Searched rules us ts m ws xs → Searched rules (at i s ks us) (cons t ts) (n + suc m) vs xs
  idle : {i : ℕ} {s : Option Symbol} {ks us : Placed} {t : Term} {ts : Terms} {n m : ℕ} {vs ws xs : List Visit}
      → Idle rules s → Searched rules ks (arguments_of t) n vs ws → Searched rules us ts m ws xs → Searched rules (at i s ks us) (cons t ts) (n + m) vs xs
  settled : {i : ℕ} {s : Option Symbol} {ks us : Placed} {t : Term} {ts : Terms} {n : ℕ} {vs xs : List Visit}
      → next rules t ≡ nothing → Searched rules us ts n vs xs → Searched rules (at i s ks us) (cons t ts) n vs xs

-- the same of a term, whose root is visited last
pub data Seeking (rules : List Rule) (root : ℕ) (ks : Placed) (t : Term) : ℕ → List Visit → Type 0 where
  below : {n : ℕ} {vs : List Visit} → Searched rules ks (arguments_of t) n vs (Reached root ∷ []) → Seeking rules root ks t (suc n) vs
  finished : next rules t ≡ nothing → Seeking rules root ks t 0 []

-- the first visits search one node that is new
pub data Renewed (rules : List Rule) (p : ℕ) (ks : Placed) (u : Term) : List Visit → List Visit → Type 0 where
  quiet : {vs : List Visit} → next rules u ≡ nothing → Renewed rules p ks u vs vs
  again : {n : ℕ} {vs ws : List Visit} → Searched rules ks (arguments_of u) n ws (Reached p ∷ vs) → Renewed rules p ks u ws vs
