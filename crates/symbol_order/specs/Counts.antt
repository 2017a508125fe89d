-- What counting the symbols of a rule's sides answers.
use Rattle.std.specs.Prelude.{◌≡◌, ℕ, ◌<◌, ◌≤◌, List, length, Some, None, Option, slice_index_or}
use Rattle.terms.specs.Term.{Term, symbols}
use Rattle.terms.specs.Substitution.{occurrences}
use Rattle.terms.specs.Rule.{Rule}
use Rattle.rewriting.specs.Rules.{rule_at}
use Rattle.symbol_order.specs.declared.counting.Count.{Count}

abbrev pub occurrences_held : Count → ℕ → ℕ
occurrences_held c x = slice_index_or c.occurrences x 0

-- the symbols of a term, and how often each of the eight variables stands there
pub record Counts (t : Term) (c : Count) : Type 0 where
  pub all : c.symbols ≡ symbols t
  pub variables : (x : ℕ) → x < 8 → occurrences_held c x ≡ occurrences x t

-- of both sides of a rule, whose right side has no variable past the eighth
pub record CountsSides (r : Rule) (c : Count × Count) : Type 0 where
  pub left : Counts r.left c.0
  pub right : Counts r.right c.1
  pub eight : (x : ℕ) → 8 ≤ x → occurrences x r.right ≡ 0

abbrev pub CountsRule : List Rule → ℕ → Option (Count × Count) → Type 0
CountsRule rules k None = length rules ≤ k
CountsRule rules k (Some c) = (k < length rules) × CountsSides (rule_at rules k) c

-- nothing in another count is larger
pub record AtLeast (c other : Count) : Type 0 where
  pub variables : (x : ℕ) → x < 8 → occurrences_held other x ≤ occurrences_held c x
  pub all : other.symbols ≤ c.symbols
