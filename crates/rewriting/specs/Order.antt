-- Orders on the tickets of a signature.
use Rattle.std.specs.Prelude.{◌≡◌, ℕ, ◌<◌, List, length}
use Rattle.std.proofs.Math.Option.{some}
use Rattle.terms.specs.Term.{Term}
use Rattle.terms.specs.Signature.{Sig}
use Rattle.terms.specs.Ticket.{Ticket}
use Rattle.terms.specs.Substitution.{Substitution, fill}
use Rattle.terms.specs.Position.{Position, part_at, put_at}
use Rattle.terms.specs.Rule.{Rule, RuleOf}
use Rattle.rewriting.specs.Rules.{rule_at}

abbrev pub Relation : Type 1
Relation = Term → Term → Type 0

-- there is no endless list of tickets each greater than the next: what holds of a ticket wherever it holds of all that it is greater than, holds of every ticket
abbrev pub Induction : Sig → Relation → Type 1
Induction sig greater = (P : Term → Type 0) → ((t : Term) → Ticket sig t → ((u : Term) → Ticket sig u → greater t u → P u) → P t) → (t : Term) → Ticket sig t → P t

-- where the relation holds between a part of a ticket and another ticket, it holds between the first and the same with the other in place of the part
abbrev pub Within : Sig → Relation → Type 0
Within sig R = (t : Term) (p : Position) (a b : Term) → Ticket sig t → Ticket sig b → part_at t p ≡ some a → R a b → R t (put_at t p b)

-- one relation and then a second one give a third
abbrev pub Compose : Sig → Relation → Relation → Relation → Type 0
Compose sig R S T = (s t u : Term) → Ticket sig s → Ticket sig t → Ticket sig u → R s t → S t u → T s u

-- of a rule in the set, the relation holds between the left and the right side under every substitution by tickets
abbrev pub Orients : Sig → Relation → (Rule → Type 0) → Type 0
Orients sig R set = (r : Rule) → RuleOf sig r → set r → (σ : Substitution) → ((x : ℕ) → Ticket sig (σ x)) → R (fill σ r.left) (fill σ r.right)

-- the laws of an order: of greater and at least, two relations of tickets, and of the rules that it orients strictly and those that it orients weakly
pub record OrderLaws (sig : Sig) (greater at_least : Relation) (strict weak : Rule → Type 0) : Type 1 where
  pub induction : Induction sig greater
  pub greater_within : Within sig greater
  pub at_least_within : Within sig at_least
  pub weaken : (t u : Term) → Ticket sig t → Ticket sig u → greater t u → at_least t u
  pub greater_at_least : Compose sig greater at_least greater
  pub at_least_greater : Compose sig at_least greater greater
  pub at_least_at_least : Compose sig at_least at_least at_least
  pub strictly : Orients sig greater strict
  pub weakly : Orients sig at_least weak

-- every rule is in the set
abbrev pub AllIn : (Rule → Type 0) → List Rule → Type 0
AllIn set rules = (k : ℕ) → k < length rules → set (rule_at rules k)
