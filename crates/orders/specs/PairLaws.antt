-- A proof and no definition: one order and then another keeps the laws.
use Rattle.std.proofs.Common.{inl, inr}
use Rattle.terms.specs.Term.{Term}
use Rattle.terms.specs.Signature.{Sig}
use Rattle.terms.specs.Ticket.{Ticket}
use Rattle.terms.specs.Rule.{Rule}
use Rattle.rewriting.specs.Order.{Relation, Compose, Induction, OrderLaws}
use Rattle.orders.specs.Lexicographic.{Then, ThenOf}

module _ {sig : Sig} {greater₁ at_least₁ greater₂ at_least₂ : Relation} {strict₁ weak₁ strict₂ weak₂ : Rule → Type 0} (m : OrderLaws sig greater₁ at_least₁ strict₁ weak₁) (n : OrderLaws sig greater₂ at_least₂ strict₂ weak₂) where
  induction : Induction sig (Then greater₁ at_least₁ greater₂)
  induction P step t h = m.induction Outer outer t h t h (λ u k a. a)
    where
      Outer : Term → Type 0
      Outer s = (t : Term) → Ticket sig t → ((u : Term) → Ticket sig u → greater₁ t u → greater₁ s u) → P t

      outer : (s : Term) → Ticket sig s → ((t : Term) → Ticket sig t → greater₁ s t → Outer t) → Outer s
      outer s j below = n.induction (λ t. ((u : Term) → Ticket sig u → greater₁ t u → greater₁ s u) → P t) (λ t k inner within. step t k (λ u l. elim [
        | inl a ↦ below u l (within u l a) u l (λ v i b. b)
        | inr p ↦ inner u l p.1 (λ v i b. within v i (m.at_least_greater t u v k l i p.0 b))
      ]))

  -- composition of any third relations that compose
  then_compose : {R S T : Relation} → Compose sig R S T → Compose sig (Then greater₁ at_least₁ R) (Then greater₁ at_least₁ S) (Then greater₁ at_least₁ T)
  then_compose c s t u i j k a b = elim a [
    | inl x ↦ elim b [
      | inl y ↦ inl (m.greater_at_least s t u i j k x (m.weaken t u j k y))
      | inr q ↦ inl (m.greater_at_least s t u i j k x q.0)
    ]
    | inr p ↦ elim b [
      | inl y ↦ inl (m.at_least_greater s t u i j k p.0 y)
      | inr q ↦ inr (m.at_least_at_least s t u i j k p.0 q.0, c s t u i j k p.1 q.1)
    ]
  ]

  pub then_laws : OrderLaws sig (Then greater₁ at_least₁ greater₂) (Then greater₁ at_least₁ at_least₂) (ThenOf strict₁ weak₁ strict₂) (ThenOf strict₁ weak₁ weak₂)
  then_laws = record {
    induction = induction;
    greater_within = λ t p a b i j e. elim [ inl x ↦ inl (m.greater_within t p a b i j e x) | inr q ↦ inr (m.at_least_within t p a b i j e q.0, n.greater_within t p a b i j e q.1) ];
    at_least_within = λ t p a b i j e. elim [ inl x ↦ inl (m.greater_within t p a b i j e x) | inr q ↦ inr (m.at_least_within t p a b i j e q.0, n.at_least_within t p a b i j e q.1) ];
    weaken = λ t u i j. elim [ inl x ↦ inl x | inr q ↦ inr (q.0, n.weaken t u i j q.1) ];
    greater_at_least = then_compose n.greater_at_least;
    at_least_greater = then_compose n.at_least_greater;
    at_least_at_least = then_compose n.at_least_at_least;
    strictly = λ r rule. elim [ inl x ↦ λ σ k. inl (m.strictly r rule x σ k) | inr q ↦ λ σ k. inr (m.weakly r rule q.0 σ k, n.strictly r rule q.1 σ k) ];
    weakly = λ r rule. elim [ inl x ↦ λ σ k. inl (m.strictly r rule x σ k) | inr q ↦ λ σ k. inr (m.weakly r rule q.0 σ k, n.weakly r rule q.1 σ k) ];
  }
