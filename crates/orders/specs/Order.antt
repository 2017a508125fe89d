-- What an order answers about the rules of a sheet.
use Rattle.std.specs.Prelude.{◌≡◌, ◌↔◌, ℕ, ◌<◌, List, length}
use Rattle.terms.specs.Rule.{Rule}
use Rattle.rewriting.specs.Rules.{rule_at}
use Rattle.orders.specs.declared.order.Orientation.{Orientation}
use Rattle.orders.specs.declared.order.Orientation.TheVariants.{Strict, Weak}

-- there is a rule of this number, and it is in the set
pub record RuleIn (set : Rule → Type 0) (rules : List Rule) (k : ℕ) : Type 0 where
  pub known : k < length rules
  pub is_in : set (rule_at rules k)

-- strict exactly if the rule of a number is in the first set, weak exactly if it is in the second alone
pub record Orients (strict weak : Rule → Type 0) (rules : List Rule) (k : ℕ) (o : Orientation) : Type 0 where
  pub strictly : (o ≡ Strict) ↔ RuleIn strict rules k
  pub weakly : (o ≡ Weak) ↔ (RuleIn weak rules k × (RuleIn strict rules k → ⊥))
