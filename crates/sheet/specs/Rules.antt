-- The rules that stored ones stand for.
use Rattle.std.specs.Prelude.{ℕ, ◌<◌, List, map, length}
use Rattle.terms.specs.Rule.{Rule, RuleOf}
use Rattle.terms.specs.Signature.{Sig}
use Rattle.rewriting.specs.Rules.{rule_at}
use Rattle.sheet.specs.Sides.{side_of}
use Rattle.sheet.specs.declared.side.Side.{Side}
use Rattle.sheet.specs.declared.rule.Rule.{Rule as Stored}

-- the rule of two sides
abbrev pub rule_between : Side → Side → Rule
rule_between left right = record { left = side_of left; right = side_of right }

abbrev pub rule_of : Stored → Rule
rule_of r = rule_between r.left r.right

abbrev pub rules_from : List Stored → List Rule
rules_from rs = map rule_of rs

-- each rule is one over the signature
abbrev pub Lawful : Sig → List Rule → Type 0
Lawful sig rules = (i : ℕ) → i < length rules → ∥ RuleOf sig (rule_at rules i) ∥₁
