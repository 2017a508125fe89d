-- The weights of the two sides of a rule.
use Rattle.std.proofs.Common.{◌≡◌, ℕ, suc, ◌*◌, ◌≤◌, eqb, ap, arith}
use mathlib.Core.Logic.{∥∥₁_elim}
use Rattle.std.proofs.Math.Nat.{ℕ_set}
use Rattle.std.proofs.lemmas.Bool.{cond-false, ne_eqb}
use Rattle.terms.specs.Term.{Term, variable, instrument, apply, Terms, nil, cons}
use Rattle.terms.specs.Signature.{Sig}
use Rattle.terms.specs.Ticket.{TermOf, TermsOf}
use Rattle.terms.specs.Rule.{Rule, RuleOf}
use Rattle.orders.specs.Linear.{Linear, values, coefficient, one_at, baseless}

-- a term over a signature has no variable past the eighth
module _ (m : Linear) (sig : Sig) (x : ℕ) (past : 8 ≤ x) where
  mutual
    no_coefficient : (t : Term) → TermOf sig t → coefficient m x t ≡ 0
    no_coefficient (variable y) h = cond-false {A = ℕ} (eqb x y) 1 0 (ne_eqb x y (λ e. omega (arith, e)))
    no_coefficient (instrument n) h = omega arith
    no_coefficient (apply f ts) h = omega (arith, no_coefficients f 0 ts h.2)

    no_coefficients : (f k : ℕ) (ts : Terms) → TermsOf sig ts → values (baseless m) (one_at x) f k ts ≡ 0
    no_coefficients f k nil h = omega arith
    no_coefficients f k (cons t ts) h = let e : m.factor f k * coefficient m x t ≡ m.factor f k * 0 = ap (λ n. m.factor f k * n) (no_coefficient t h.0) in omega (arith, e, no_coefficients f (suc k) ts h.1)

pub eight_variables : (m : Linear) (sig : Sig) (r : Rule) → ∥ RuleOf sig r ∥₁ → (x : ℕ) → 8 ≤ x → coefficient m x r.right ≡ 0
eight_variables m sig r rule x past = ∥∥₁_elim rule (ℕ_set _ _) (λ h. no_coefficient m sig x past r.right h.right_term)
