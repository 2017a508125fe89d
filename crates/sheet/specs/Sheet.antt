-- What a sheet holds.
use Rattle.std.specs.Prelude.{◌≡◌, Bool, false, List, []}
use Rattle.fixed_vec.specs.FixedVec.{items}
use Rattle.terms.specs.Rule.{Rule}
use Rattle.terms.specs.Signature.{Sig}
use Rattle.signature.specs.Declaring.{sig_of}
use Rattle.sheet.specs.Rules.{rules_from}
use Rattle.sheet.specs.declared.Sheet.{Sheet}

abbrev pub operators_of : Sheet → Sig
operators_of s = sig_of s.signature

abbrev pub rules_of : Sheet → List Rule
rules_of s = rules_from (items s.rules)

abbrev pub is_admitted : Sheet → Bool
is_admitted s = s.admitted

-- these operators, no rules, not admitted
pub record Bare (sig : Sig) (s : Sheet) : Type 0 where
  pub operators : operators_of s ≡ sig
  pub rules : rules_of s ≡ []
  pub unjudged : is_admitted s ≡ false
