-- What a step in place does.
use Rattle.std.specs.Prelude.{◌≡◌, ℕ, suc, ◌+◌, ◌≤◌, List, [], length, Some, Option}
use Rattle.terms.specs.declared.symbol.Symbol.{Symbol}
use Rattle.terms.specs.Term.{Term, symbols}
use Rattle.terms.specs.Signature.{Sig}
use Rattle.terms.specs.Substitution.{fill}
use Rattle.terms.specs.Rule.{Rule, RuleOf}
use Rattle.traversal.specs.Walks.{most_symbols}
use Rattle.rewriting.specs.Bindings.{Bindings, bound}
use Rattle.node_store.specs.Memory.{Memory}
use Rattle.node_store.specs.Placed.{Placed, none, at, size, IsTerm, Held, also}
use Rattle.node_store.specs.Grafting.{graft, Sub}
use Rattle.node_store.specs.Work.{Work}
use Rattle.node_store.specs.Loading.{arguments_of}
use Rattle.compiled.specs.declared.Plan.{Plan}
use Rattle.compiled.specs.Plans.{Planned}
use Rattle.matching.specs.Peeling.{Peeled}
use Rattle.matching.specs.Room.{dropped_sizes}
use Rattle.stepping.specs.Growing.{GrownUnder}

-- in a held term stands the right side, filled, at a place: the symbol and the row of arguments there are new, all other nodes of the held terms are as they were
pub record Stepped (m : Memory) (h : Held) (root : ℕ) (s : Option Symbol) (ks : Placed) (place : ℕ) (right : Term) (v : Bindings) (k : Memory) (made : List ℕ) : Type 0 where
  pub symbol : Option Symbol
  pub row : Placed
  pub gone : Placed
  pub is : IsTerm symbol row (fill (bound v) right)
  pub work : (s₂ : Option Symbol) (ks₂ : Placed) (u : Term) → at root s₂ ks₂ none ≡ graft place symbol row (at root s ks none) → IsTerm s₂ ks₂ u → Work k (also root s₂ ks₂ u h) [] gone
  pub grown : GrownUnder (bound v) right row made
  pub long : length k.nodes ≡ length m.nodes

-- that is so for the rule of the plan, whatever terms are held, and in whichever of them its left side matches at the place, if there is room
abbrev pub Steps : Memory → Plan → ℕ → List ℕ → List ℕ → Memory → List ℕ → Option (Unit {0}) → Type 0
Steps m p place places sizes k made r =
    (sig : Sig) (rule : Rule) → RuleOf sig rule → Planned rule p
    → (h : Held) (root : ℕ) (s : Option Symbol) (ks : Placed) (t : Term) (g : Placed) → Work m (also root s ks t h) [] g → length m.nodes ≤ most_symbols
    → (sp : Option Symbol) (kp : Placed) → Sub place sp kp (at root s ks none)
    → (kept : List Placed) (v : Bindings) → Peeled (arguments_of rule.left) kp places kept v → sizes ≡ dropped_sizes p places kept → symbols (fill (bound v) rule.right) ≤ m.free + suc (size kp)
    → (r ≡ Some tt) × Stepped m h root s ks place rule.right v k made
