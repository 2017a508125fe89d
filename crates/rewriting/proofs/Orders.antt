-- What the laws of an order give where it orients every rule.
use Rattle.std.proofs.Common.{◌≡◌, refl, sym, subst, List, Bool, true, false, cond, ℕ, suc, ◌≤◌, arith, nat_le, leb-true, le-leb}
use Rattle.terms.specs.Term.{Term, instrument}
use Rattle.terms.specs.Signature.{Sig, Declared}
use Rattle.terms.specs.Ticket.{Ticket}
use Rattle.terms.specs.Substitution.{Substitution, fill, occurrences}
use Rattle.terms.specs.Rule.{Rule, RuleOf}
use Rattle.rewriting.specs.Rules.{rule_at, left_of, right_of, RulesOf}
use Rattle.rewriting.specs.Step.{Step}
use Rattle.rewriting.specs.Reduction.{Ends, ends}
use Rattle.rewriting.specs.Order.{Relation, Within, Orients, OrderLaws, AllIn}
use Rattle.rewriting.specs.Laws.{StrictlyOrientedEnd, StepsDescend, NoEndlessDescent, TestedConverge}
use Rattle.rewriting.proofs.Filling.{fill_ext}
use Rattle.rewriting.proofs.Converging.{agreeing_joins}
use Rattle.rewriting.proofs.Tickets.{variable_ticket, fill_ticket, part_ticket, step_ticket}

-- the substitution, with an instrument for each variable that does not stand in the term
abbrev on_variables_of : Term → Substitution → Substitution
on_variables_of t σ x = cond (nat_le 1 (occurrences x t)) (σ x) (instrument 1)

on_tickets : (sig : Sig) (t : Term) (σ : Substitution) → Ticket sig (fill σ t) → (x : ℕ) → Ticket sig (on_variables_of t σ x)
on_tickets sig t σ h x = go (nat_le 1 (occurrences x t)) refl
  where
    go : (b : Bool) → nat_le 1 (occurrences x t) ≡ b → Ticket sig (cond b (σ x) (instrument 1))
    go true e = variable_ticket sig σ t h x (leb-true 1 (occurrences x t) e)
    go false e = omega arith

on_same : (t : Term) (σ : Substitution) (u : Term) → ((x : ℕ) → 1 ≤ occurrences x u → 1 ≤ occurrences x t) → fill (on_variables_of t σ) u ≡ fill σ u
on_same t σ u h = fill_ext (on_variables_of t σ) σ u (λ x k. rw (le-leb 1 (occurrences x t) (h x k)))

-- of a rule in a set that the relation orients, a left side that is a ticket is so to the right side
oriented : (sig : Sig) (R : Relation) (set : Rule → Type 0) → Orients sig R set → (r : Rule) → RuleOf sig r → set r → (σ : Substitution) → Ticket sig (fill σ r.left) → R (fill σ r.left) (fill σ r.right)
oriented sig R set orients r rule h σ k =
    let a = orients r rule h (on_variables_of r.left σ) (on_tickets sig r.left σ k) in
    subst (λ z. R z (fill σ r.right)) (on_same r.left σ r.left (λ x j. j)) (subst (R (fill (on_variables_of r.left σ) r.left)) (on_same r.left σ r.right rule.bound) a)

-- so each step descends
pub descends : (sig : Sig) (R : Relation) (set : Rule → Type 0) → Within sig R → Orients sig R set → (rules : List Rule) → RulesOf sig rules → AllIn set rules → (t u : Term) → Ticket sig t → Step rules t u → R t u
descends sig R set within orients rules over all t u h a =
    let rule = over a.rule a.known in
    let σ = a.step.substitution in
    let part : Ticket sig (fill σ (left_of rules a.rule)) = part_ticket sig t a.position a.step.before h in
    let new : Ticket sig (fill σ (right_of rules a.rule)) = fill_ticket sig σ (right_of rules a.rule) rule.right_term (λ x k. variable_ticket sig σ (left_of rules a.rule) part x (rule.bound x k)) in
    subst (R t) (sym a.step.after) (within t a.position (fill σ (left_of rules a.rule)) (fill σ (right_of rules a.rule)) h new a.step.before (oriented sig R set orients (rule_at rules a.rule) rule (all a.rule a.known) σ part))

-- and steps end
pub strictly_oriented_end : (greater at_least : Relation) (strict weak : Rule → Type 0) → ((sig : Sig) → Declared sig → OrderLaws sig greater at_least strict weak) → StrictlyOrientedEnd strict
strictly_oriented_end greater at_least strict weak laws sig declared rules over all =
    let law = laws sig declared in
    law.induction (Ends (Step rules)) (λ t h below. ends (λ u a. below u (step_ticket over a h) (descends sig greater strict law.greater_within law.strictly rules over all t u h a)))

pub steps_greater : (greater at_least : Relation) (strict weak : Rule → Type 0) → ((sig : Sig) → Declared sig → OrderLaws sig greater at_least strict weak) → StepsDescend greater strict
steps_greater greater at_least strict weak laws sig declared rules over all = let law = laws sig declared in descends sig greater strict law.greater_within law.strictly rules over all

pub steps_at_least : (greater at_least : Relation) (strict weak : Rule → Type 0) → ((sig : Sig) → Declared sig → OrderLaws sig greater at_least strict weak) → StepsDescend at_least weak
steps_at_least greater at_least strict weak laws sig declared rules over all = let law = laws sig declared in descends sig at_least weak law.at_least_within law.weakly rules over all

pub tested_converge : (greater at_least : Relation) (strict weak : Rule → Type 0) → ((sig : Sig) → Declared sig → OrderLaws sig greater at_least strict weak) → TestedConverge strict
tested_converge greater at_least strict weak laws sig declared rules over all agree =
    record { over = over; steps_end = strictly_oriented_end greater at_least strict weak laws sig declared rules over all; overlaps_join = agreeing_joins over agree }

pub no_endless_descent : (greater at_least : Relation) (strict weak : Rule → Type 0) → ((sig : Sig) → Declared sig → OrderLaws sig greater at_least strict weak) → NoEndlessDescent greater
no_endless_descent greater at_least strict weak laws sig declared ts tickets falls =
    (laws sig declared).induction Endless (λ t h below us e k d. below (us 1) (k 1) (subst (λ z. greater z (us 1)) e (d 0)) (λ n. us (suc n)) refl (λ n. k (suc n)) (λ n. d (suc n))) (ts 0) (tickets 0) ts refl tickets falls
  where
    Endless : Term → Type 0
    Endless t = (us : ℕ → Term) → us 0 ≡ t → ((n : ℕ) → Ticket sig (us n)) → ((n : ℕ) → greater (us n) (us (suc n))) → ⊥
