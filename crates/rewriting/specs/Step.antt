-- Steps: one use of a rule, at a position.
use Rattle.std.proofs.Math.Option.{some}
use Rattle.std.specs.Prelude.{◌≡◌, ℕ, ◌<◌, List, length}
use Rattle.terms.specs.Term.{Term}
use Rattle.terms.specs.Substitution.{Substitution, fill}
use Rattle.terms.specs.Position.{Position, part_at, put_at}
use Rattle.terms.specs.Rule.{Rule}
use Rattle.rewriting.specs.Rules.{rule_at}

-- one step by a rule at a position: what stands there is the left side under a substitution, and then the right side under it stands there
pub record StepAt (r : Rule) (p : Position) (t u : Term) : Type 0 where
  pub substitution : Substitution
  pub before : part_at t p ≡ some (fill substitution r.left)
  pub after : u ≡ put_at t p (fill substitution r.right)

-- one step, by any of the rules at any position
pub record Step (rules : List Rule) (t u : Term) : Type 0 where
  pub rule : ℕ
  pub known : rule < length rules
  pub position : Position
  pub step : StepAt (rule_at rules rule) position t u
