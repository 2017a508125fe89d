-- What is needed of a rule.
use Rattle.std.specs.Prelude.{◌≡◌, ℕ, ◌≤◌}
use Rattle.terms.specs.Term.{Term}
use Rattle.terms.specs.Rule.{Rule, OperatorFirst}
use Rattle.terms.specs.Substitution.{occurrences}

-- the variables of a term are among 0 to 7, and none stands there twice
pub record Linear (t : Term) : Type 0 where
  pub eight : (x : ℕ) → 8 ≤ x → occurrences x t ≡ 0
  pub once : (x : ℕ) → occurrences x t ≤ 1

-- the left side is such a term and begins with an operator
pub record Compilable (r : Rule) : Type 0 where
  pub operator_first : OperatorFirst r.left
  pub linear : Linear r.left
