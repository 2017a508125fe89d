-- Lists of rules, numbered from 0, and which of them match a term.
use Rattle.std.specs.Prelude.{◌≡◌, ℕ, ◌<◌, List, length, slice_index_or}
use Rattle.std.proofs.Math.Option.{some}
use Rattle.terms.specs.Term.{Term, instrument}
use Rattle.terms.specs.Signature.{Sig}
use Rattle.terms.specs.Substitution.{Substitution, fill}
use Rattle.terms.specs.Position.{Position, part_at}
use Rattle.terms.specs.Rule.{Rule, RuleOf}

-- the rule of a number; past the last, one of two instruments
abbrev pub rule_at : List Rule → ℕ → Rule
rule_at rules k = slice_index_or rules k (record { left = instrument 1; right = instrument 1 })

abbrev pub left_of : List Rule → ℕ → Term
left_of rules k = (rule_at rules k).left

abbrev pub right_of : List Rule → ℕ → Term
right_of rules k = (rule_at rules k).right

-- each rule is one over the signature
abbrev pub RulesOf : Sig → List Rule → Type 0
RulesOf sig rules = (k : ℕ) → k < length rules → RuleOf sig (rule_at rules k)

-- a rule matches a term: under some substitution its left side is the term
abbrev pub Matches : Rule → Term → Type 0
Matches r t = (σ : Substitution) × (t ≡ fill σ r.left)

-- one of the rules does
abbrev pub SomeMatches : List Rule → Term → Type 0
SomeMatches rules t = (k : ℕ) × (k < length rules) × Matches (rule_at rules k) t

-- no rule matches anywhere in a term
abbrev pub MatchesNowhere : List Rule → Term → Type 0
MatchesNowhere rules t = (p : Position) (b : Term) → part_at t p ≡ some b → SomeMatches rules b → ⊥
