-- What reducing a held term does.
use Rattle.std.specs.Prelude.{◌≡◌, ℕ, ◌≤◌, List, [], length, Option}
use Rattle.terms.specs.declared.symbol.Symbol.{Symbol}
use Rattle.terms.specs.Term.{Term}
use Rattle.terms.specs.Signature.{Sig}
use Rattle.terms.specs.Rule.{Rule}
use Rattle.rewriting.specs.Rules.{RulesOf}
use Rattle.rewriting.specs.Next.{run}
use Rattle.traversal.specs.Walks.{most_symbols}
use Rattle.machine.specs.Reducing.{Stop as WhyStopped, finished, spent, short, Reduced as Reduction, reduction}
use Rattle.node_store.specs.Memory.{Memory}
use Rattle.node_store.specs.Placed.{Placed, Held, also}
use Rattle.node_store.specs.Work.{Work}
use Rattle.compiled.specs.declared.CompiledRules.{CompiledRules}
use Rattle.compiled.specs.Compiled.{IsCompiled}
use Rattle.engine.specs.declared.reduce.Reduced.{Reduced}
use Rattle.engine.specs.declared.reduce.Stop.{Stop}
use Rattle.engine.specs.declared.reduce.Stop.TheVariants.{Finished, Spent, Short}

-- why it stopped, as the reference machine says it
abbrev pub why : Stop → WhyStopped
why Finished = finished
why Spent = spent
why Short = short

-- the answer, as the reference machine gives it
abbrev pub answered : Reduced → Reduction
answered r = record { steps = r.steps; stop = why r.stop }

-- the term after so many next steps stands where the term stood, and all other terms are held as they were
pub record After (m : Memory) (h : Held) (place : ℕ) (u : Term) (k : Memory) : Type 0 where
  pub symbol : Option Symbol
  pub under : Placed
  pub gone : Placed
  pub work : Work k (also place symbol under u h) [] gone
  pub long : length k.nodes ≡ length m.nodes

-- the steps made and why no more: those that the reference machine answers; whatever else is held
abbrev pub Reduces : Memory → CompiledRules → ℕ → ℕ → Memory → Reduced → Type 0
Reduces m c place allowed k r =
    (sig : Sig) (rules : List Rule) → RulesOf sig rules → IsCompiled rules c
    → (h : Held) (s : Option Symbol) (ks : Placed) (t : Term) (g : Placed) → Work m (also place s ks t h) [] g → length m.nodes ≤ most_symbols
    → (answered r ≡ reduction rules allowed m.free t) × After m h place (run rules r.steps t) k
