-- What reducing does to a pool.
use Rattle.std.proofs.Common.{◌≡◌, ℕ, refl, sym, ◌∙◌, ap, ◌*◌, cond, true, List, [], get_or, Some, None}
use Rattle.std.proofs.Math.Logic.{∥∥₁_elim}
use Rattle.std.proofs.Math.Nat.{ℕ_set}
use Rattle.terms.specs.Term.{Term}
use Rattle.terms.specs.Nodes.{vacant, node_answers}
use Rattle.terms.specs.Off.{read_off}
use Rattle.terms.specs.Signature.{Sig}
use Rattle.terms.specs.Rule.{Rule}
use Rattle.traversal.specs.Walks.{most_symbols}
use Rattle.rewriting.specs.Rules.{RulesOf}
use Rattle.rewriting.specs.Next.{run}
use Rattle.rewriting.proofs.Props.{discrete_set}
use Rattle.machine.specs.Reducing.{Stop, finished, spent, short, Reduced as Reduction, reduction}
use Rattle.machine.proofs.Reducing.{reductions_fixed}
use Rattle.node_store.specs.Memory.{Memory}
use Rattle.node_store.specs.Sound.{Sound, leads, held_at}
use Rattle.node_store.proofs.Helds.{held_set, held_is}
use Rattle.node_store.proofs.Resting.{apart, Exchanged, exchanged}
use Rattle.node_store.proofs.Loadings.{at_work}
use Rattle.compiled.specs.declared.CompiledRules.{CompiledRules}
use Rattle.compiled.specs.Compiled.{IsCompiled}
use Rattle.engine.specs.declared.reduce.Reduced.{Reduced}
use Rattle.engine.specs.Reducing.{answered, Reduces}
use Rattle.pool.specs.Reducing.{ReducedFrom}

stop_discrete : Discrete Stop
stop_discrete finished finished = yes refl
stop_discrete finished spent = no (λ e. cc)
stop_discrete finished short = no (λ e. cc)
stop_discrete spent finished = no (λ e. cc)
stop_discrete spent spent = yes refl
stop_discrete spent short = no (λ e. cc)
stop_discrete short finished = no (λ e. cc)
stop_discrete short spent = no (λ e. cc)
stop_discrete short short = yes refl

stop_set : IsSet Stop
stop_set = discrete_set stop_discrete

reduction_set : IsSet Reduction
reduction_set = hlevel (ℕ_set, stop_set)

-- the term at a root
abbrev pub root_term : Memory → ℕ → Term
root_term m p = read_off (2 * most_symbols) (node_answers m.nodes) p

pub root_held : (m : Memory) (p : ℕ) → leads (get_or m.nodes p vacant).next p ≡ true → held_at m.nodes p ≡ Some (root_term m p)
root_held m p e = ap (λ b. cond b (Some (root_term m p)) None) e

-- the answer, and what is held then
record Reduces-in (rules : List Rule) (m : Memory) (p allowed : ℕ) (t : Term) (k : Memory) (r : Reduced) : Type 0 where
  pub answer : answered r ≡ reduction rules allowed m.free t
  pub exchanged : Exchanged m p t k (run rules r.steps t)

module _ (m : Memory) (c : CompiledRules) (p allowed : ℕ) (k : Memory) (r : Reduced) (reduces : Reduces m c p allowed k r) (t : Term) (held : held_at m.nodes p ≡ Some t) (sig : Sig) (rules : List Rule) (over : RulesOf sig rules) (is : IsCompiled rules c) where
  in_sound : Sound m → Reduces-in rules m p allowed t k r
  in_sound s =
      let a = apart m s.held [] s.gone p t (sym (held_is m s p) ∙ held) (at_work m s) in
      let (e, o) = reduces sig rules over is a.others a.symbol a.under t s.gone a.work s.few in
      record { answer = e; exchanged = exchanged m s p t a k o.symbol o.under (run rules r.steps t) o.gone o.long o.work }

  pub sound_after : Sound m → Sound k
  sound_after s = (in_sound s).exchanged.sound

  pub reduced_from : ∥ Sound m ∥₁ → ReducedFrom rules m p allowed t k r
  reduced_from s = record {
    answer = (reductions_fixed sig rules over allowed m.free t (answered r)).1 (∥∥₁_elim s (reduction_set _ _) (λ s. (in_sound s).answer));
    held = λ q. ∥∥₁_elim s (held_set _ _) (λ s. (in_sound s).exchanged.held q);
    free = ∥∥₁_elim s (ℕ_set _ _) (λ s. (in_sound s).exchanged.free);
  }
