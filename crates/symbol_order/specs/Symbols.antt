-- The order by the number of symbols.
use Rattle.std.specs.Prelude.{ℕ, ◌<◌, ◌≤◌}
use Rattle.terms.specs.Term.{Term, symbols}
use Rattle.terms.specs.Substitution.{occurrences}
use Rattle.terms.specs.Rule.{Rule}

abbrev pub Longer : Term → Term → Type 0
Longer t u = symbols u < symbols t

abbrev pub AsLong : Term → Term → Type 0
AsLong t u = symbols u ≤ symbols t

-- no variable stands more often on the right, and the right side has no more symbols
pub record ShrinksWeakly (r : Rule) : Type 0 where
  pub variables : (x : ℕ) → occurrences x r.right ≤ occurrences x r.left
  pub no_longer : symbols r.right ≤ symbols r.left

-- and it has fewer
abbrev pub ShrinksStrictly : Rule → Type 0
ShrinksStrictly r = ShrinksWeakly r × (symbols r.right < symbols r.left)
