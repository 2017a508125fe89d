-- What reducing a held term answers, and what is held then.
use Rattle.std.specs.Prelude.{◌≡◌, ℕ, ◌+◌, ◌==◌, cond, List, Some, None, Option}
use Rattle.terms.specs.Term.{Term, symbols}
use Rattle.terms.specs.Rule.{Rule}
use Rattle.rewriting.specs.Next.{run}
use Rattle.machine.specs.Reducing.{IsReduction}
use Rattle.node_store.specs.Memory.{Memory}
use Rattle.node_store.specs.Sound.{held_at}
use Rattle.engine.specs.declared.reduce.Reduced.{Reduced}
use Rattle.engine.specs.Reducing.{answered}

-- of a term: the answer is how the reference machine reduces it with so many steps allowed and so many nodes free; the term after the steps made is held in its place, all others as they were, and the free nodes change by the symbols
pub record ReducedFrom (rules : List Rule) (m : Memory) (place allowed : ℕ) (t : Term) (k : Memory) (r : Reduced) : Type 0 where
  pub answer : IsReduction rules allowed m.free t (answered r)
  pub held : (q : ℕ) → held_at k.nodes q ≡ cond (q == place) (Some (run rules r.steps t)) (held_at m.nodes q)
  pub free : k.free + symbols (run rules r.steps t) ≡ m.free + symbols t

-- so it is with the term held at the place; where none is held, that is answered, and nothing changes
abbrev pub ReducesHeld : List Rule → Memory → ℕ → ℕ → Memory → Option Reduced → Type 0
ReducesHeld rules m place allowed k None = (held_at m.nodes place ≡ None) × (k ≡ m)
ReducesHeld rules m place allowed k (Some r) = (t : Term) × (held_at m.nodes place ≡ Some t) × ReducedFrom rules m place allowed t k r
