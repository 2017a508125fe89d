-- Rules: a left side and a right side.
use Rattle.std.specs.Prelude.{ℕ, zero, suc, ◌≤◌, max}
use Rattle.terms.specs.Term.{Term, variable, instrument, apply, Terms, nil, cons}
use Rattle.terms.specs.Signature.{Sig}
use Rattle.terms.specs.Ticket.{TermOf}
use Rattle.terms.specs.Substitution.{occurrences}

pub record Rule : Type 0 where
  pub left : Term
  pub right : Term

-- the levels of a term: one for a term without arguments, and one more for each operator around it
abbrev mutual
  pub levels : Term → ℕ
  levels (variable x) = 1
  levels (instrument n) = 1
  levels (apply f ts) = suc (levels_in ts)

  pub levels_in : Terms → ℕ
  levels_in nil = zero
  levels_in (cons t ts) = max (levels t) (levels_in ts)

-- the term begins with an operator
abbrev pub OperatorFirst : Term → Type 0
OperatorFirst (variable x) = ⊥
OperatorFirst (instrument n) = ⊥
OperatorFirst (apply f ts) = Unit {0}

-- a rule over a signature: the left side begins with an operator and has no variable twice, and every variable of the right side stands in the left side
pub record RuleOf (sig : Sig) (r : Rule) : Type 0 where
  pub left_term : TermOf sig r.left
  pub right_term : TermOf sig r.right
  pub operator_first : OperatorFirst r.left
  pub linear : (x : ℕ) → occurrences x r.left ≤ 1
  pub bound : (x : ℕ) → 1 ≤ occurrences x r.right → 1 ≤ occurrences x r.left
