-- The members of a set of rule numbers.
use Rattle.std.specs.Prelude.{◌≡◌, ℕ, ◌<◌, Bool, false, ◌==◌}
use Rattle.std.specs.Int.{bit_at}
use Rattle.rule_set.specs.declared.RuleSet.{RuleSet}

-- whether a number is a member: its bit of the word is 1
unfoldable pub has : RuleSet → ℕ → Bool
has set i = bit_at set.bits i == 1

-- no number below this one is a member
abbrev pub HasNoneBelow : RuleSet → ℕ → Type 0
HasNoneBelow set i = (j : ℕ) → j < i → has set j ≡ false

-- no number is a member
abbrev pub HasNone : RuleSet → Type 0
HasNone set = (j : ℕ) → has set j ≡ false
