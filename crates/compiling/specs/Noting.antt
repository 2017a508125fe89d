-- Which sets a rule is put into.
use Rattle.std.specs.Prelude.{◌≡◌, ℕ, Bool, true, ◌==◌, ◌&&◌, ◌||◌, Some, None, Option}
use Rattle.terms.specs.declared.symbol.Symbol.{Symbol}
use Rattle.rule_set.specs.declared.RuleSet.{RuleSet}
use Rattle.rule_set.specs.Members.{has}
use Rattle.compiled.specs.Compiled.{may_begin}
use Rattle.compiling.specs.Outlines.{alone}

-- whether an operator may be in front where a pattern has this symbol, if it has one
abbrev pub allows : Option Symbol → Option ℕ → Bool
allows None o = true
allows (Some s) o = may_begin (alone s) o

-- a set after a rule was put into it, if this operator may be in front
abbrev pub Noted : RuleSet → ℕ → Option Symbol → Option ℕ → RuleSet → Type 0
Noted before rule s o after = (j : ℕ) → has after j ≡ ((allows s o && (j == rule)) || has before j)
