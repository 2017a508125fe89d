-- Compiled rules that come from rules over a signature.
use Rattle.std.specs.Prelude.{List}
use Rattle.terms.specs.Signature.{Sig}
use Rattle.terms.specs.Rule.{Rule}
use Rattle.rewriting.specs.Rules.{RulesOf}
use Rattle.compiled.specs.declared.CompiledRules.{CompiledRules}
use Rattle.compiled.specs.Compiled.{IsCompiled}

pub record FromRules (c : CompiledRules) : Type 0 where
  pub signature : Sig
  pub rules : List Rule
  pub over : RulesOf signature rules
  pub compiled : IsCompiled rules c
