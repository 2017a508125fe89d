-- What is a proposition, so that it may be taken out of a truncated fact.
use Rattle.std.proofs.Common.{◌≡◌, List, ℕ, refl, sym, ◌∙◌, ap, subst}
use Rattle.std.proofs.Math.Path.{path_j, sym_∙}
use Rattle.std.proofs.Math.Bridge.{le_prop}
use Rattle.std.proofs.Math.Decide.{ℕ_discrete}
use Rattle.std.proofs.Math.Nat.{ℕ_set}
use Rattle.std.proofs.Math.Option.{Option, Path-none_prop}
use Rattle.terms.specs.Term.{Term, variable, instrument, apply, Terms, nil, cons, term_discrete}
use Rattle.terms.specs.Signature.{Sig}
use Rattle.terms.specs.Ticket.{TermOf, TermsOf, Ticket, Tickets}
use Rattle.terms.specs.Rule.{Rule, RuleOf, OperatorFirst}
use Rattle.rewriting.specs.Rules.{RulesOf}
use Rattle.rewriting.specs.Next.{EndsAfter}

-- where equality is decided, paths are propositions
module _ {A : Type 0} (d : Discrete A) where
  abbrev chosen : (x y : A) → Dec (x ≡ y) → x ≡ y → x ≡ y
  chosen x y (yes q) p = q
  chosen x y (no n) p = absurd (n p)

  same_chosen : (x y : A) (o : Dec (x ≡ y)) (p q : x ≡ y) → chosen x y o p ≡ chosen x y o q
  same_chosen x y (yes r) p q = refl
  same_chosen x y (no n) p q = absurd (n p)

  from_chosen : (x y : A) (p : x ≡ y) → sym (chosen x x (d x x) refl) ∙ chosen x y (d x y) p ≡ p
  from_chosen x y p = path_j (λ z q. sym (chosen x x (d x x) refl) ∙ chosen x z (d x z) q ≡ q) (sym_∙ (chosen x x (d x x) refl)) p

  pub discrete_set : IsSet A
  discrete_set x y p q = sym (from_chosen x y p) ∙ ap (λ z. sym (chosen x x (d x x) refl) ∙ z) (same_chosen x y (d x y) p q) ∙ from_chosen x y q

pub term_set : IsSet Term
term_set = discrete_set (term_discrete ℕ_discrete)

mutual
  pub term_of_prop : (sig : Sig) (t : Term) → IsProp (TermOf sig t)
  term_of_prop sig (variable x) = hlevel (le_prop)
  term_of_prop sig (instrument n) = hlevel (le_prop)
  term_of_prop sig (apply f ts) = hlevel (le_prop, ℕ_set, terms_of_prop sig ts)

  pub terms_of_prop : (sig : Sig) (ts : Terms) → IsProp (TermsOf sig ts)
  terms_of_prop sig nil = hlevel
  terms_of_prop sig (cons t ts) = hlevel (term_of_prop sig t, terms_of_prop sig ts)

operator_first_prop : (t : Term) → IsProp (OperatorFirst t)
operator_first_prop (variable x) = hlevel
operator_first_prop (instrument n) = hlevel
operator_first_prop (apply f ts) = hlevel

pub rule_of_prop : (sig : Sig) (r : Rule) → IsProp (RuleOf sig r)
rule_of_prop sig r = hlevel (le_prop, term_of_prop sig r.left, term_of_prop sig r.right, operator_first_prop r.left)

pub rules_of_prop : (sig : Sig) (rules : List Rule) → IsProp (RulesOf sig rules)
rules_of_prop sig rules = hlevel (rule_of_prop sig)

mutual
  pub ticket_prop : (sig : Sig) (t : Term) → IsProp (Ticket sig t)
  ticket_prop sig (variable x) = hlevel
  ticket_prop sig (instrument n) = hlevel (le_prop)
  ticket_prop sig (apply f ts) = hlevel (le_prop, ℕ_set, tickets_prop sig ts)

  pub tickets_prop : (sig : Sig) (ts : Terms) → IsProp (Tickets sig ts)
  tickets_prop sig nil = hlevel
  tickets_prop sig (cons t ts) = hlevel (ticket_prop sig t, tickets_prop sig ts)

pub ends_after_prop : (rules : List Rule) (t : Term) (n : ℕ) → IsProp (EndsAfter rules t n)
ends_after_prop rules t n = hlevel (λ (o : Option Term). Path-none_prop o)

-- the number after which next steps end, with that it is the only one
pub counted_prop : (rules : List Rule) (t : Term) → IsProp ((n : ℕ) × EndsAfter rules t n × ((k : ℕ) → EndsAfter rules t k → k ≡ n))
counted_prop rules t x y = subst (λ z. (b : Only z) → x ≡ (z, b.0, b.1)) (y.2 x.0 x.1) (λ b. ap (λ (c : Only x.0). (x.0, c.0, c.1)) (only_prop x.0 (x.1, x.2) b)) (y.1, y.2)
  where
    Only : ℕ → Type 0
    Only n = EndsAfter rules t n × ((k : ℕ) → EndsAfter rules t k → k ≡ n)

    only_prop : (n : ℕ) → IsProp (Only n)
    only_prop n = hlevel (ends_after_prop rules t n, ℕ_set)
