-- The rules by the operators with which they begin, from the first on.
use Rattle.std.proofs.Common.{◌≡◌, ℕ, ◌+◌, ◌<◌, true, false, ◌==◌, ◌||◌, List, length, get_or, set, sym, subst, ap, ◌∙◌, inl, inr, arith}
use Rattle.std.proofs.lemmas.Bool.{cases_eq, ne_eqb}
use Rattle.std.proofs.lemmas.List.{get_or-set_same, get_or-set_other}
use Rattle.terms.specs.Term.{Term, variable, instrument, apply}
use Rattle.terms.specs.Rule.{Rule}
use Rattle.rewriting.specs.Rules.{left_of}
use Rattle.rule_set.specs.declared.RuleSet.{RuleSet}
use Rattle.rule_set.specs.Members.{has}
use Rattle.compiled.specs.Compiled.{BeginsWith, Beginning}
use Rattle.compiling.proofs.Noting.{same_eqb}

-- those of the first k rules that begin with the operator
pub record BeginsBefore (rules : List Rule) (f k : ℕ) (members : RuleSet) : Type 0 where
  pub only : (i : ℕ) → has members i ≡ true → (i < k) × BeginsWith f (left_of rules i)
  pub all : (i : ℕ) → i < k → BeginsWith f (left_of rules i) → has members i ≡ true

begins_once : (f g : ℕ) (t : Term) → BeginsWith f t → BeginsWith g t → f ≡ g
begins_once f g (variable x) a b = absurd a
begins_once f g (instrument n) a b = absurd a
begins_once f g (apply h ts) a b = a ∙ sym b

module _ (rules : List Rule) where
  pub none_begins : (f : ℕ) (members : RuleSet) → ((i : ℕ) → has members i ≡ false) → BeginsBefore rules f 0 members
  none_begins f members none = record {
    only = λ i e. let z : ⊥ = cc (e, none i) in absurd z;
    all = λ i l b. absurd (omega arith);
  }

  module _ (k f : ℕ) (begins : BeginsWith f (left_of rules k)) where
    one_begins : (members more : RuleSet) → BeginsBefore rules f k members → ((j : ℕ) → has more j ≡ ((j == k) || has members j)) → BeginsBefore rules f (k + 1) more
    one_begins members more so_far added = record {
      only = λ i e. elim (cases_eq i k) [
        | inl at ↦ (omega (arith, at), subst (λ j. BeginsWith f (left_of rules j)) (sym at) begins)
        | inr ne ↦ (let h = so_far.only i (sym (added i ∙ ap (λ c. c || has members i) (ne_eqb i k ne)) ∙ e) in (omega (arith, h.0), h.1))
      ];
      all = λ i l b. elim (cases_eq i k) [
        | inl at ↦ added i ∙ ap (λ c. c || has members i) (subst (λ j. (j == k) ≡ true) (sym at) (same_eqb k))
        | inr ne ↦ added i ∙ ap (λ c. c || has members i) (ne_eqb i k ne) ∙ so_far.all i (omega (arith, ne)) b
      ];
    }

    other_begins : (g : ℕ) (members : RuleSet) → (g ≡ f → ⊥) → BeginsBefore rules g k members → BeginsBefore rules g (k + 1) members
    other_begins g members apart so_far = record {
      only = λ i e. let h = so_far.only i e in (omega (arith, h.0), h.1);
      all = λ i l b. elim (cases_eq i k) [
        | inl at ↦ absurd (apart (begins_once g f (left_of rules k) (subst (λ j. BeginsWith g (left_of rules j)) at b) begins))
        | inr ne ↦ so_far.all i (omega (arith, ne)) b
      ];
    }

    pub all_begin : (sets : List RuleSet) (d0 more : RuleSet) → f < length sets → ((g : ℕ) (d : RuleSet) → g < 32 → BeginsBefore rules g k (get_or sets g d)) → ((j : ℕ) → has more j ≡ ((j == k) || has (get_or sets f d0) j)) → (g : ℕ) (d : RuleSet) → g < 32 → BeginsBefore rules g (k + 1) (get_or (set sets f more) g d)
    all_begin sets d0 more known so_far added g d l = elim (cases_eq g f) [
      | inl at ↦ subst (λ h. BeginsBefore rules h (k + 1) (get_or (set sets f more) h d)) (sym at) (
          subst (BeginsBefore rules f (k + 1)) (sym (get_or-set_same sets f more d known)) (one_begins (get_or sets f d0) more (so_far f d0 (omega (arith, at, l))) added)
          )
      | inr ne ↦ subst (BeginsBefore rules g (k + 1)) (sym (get_or-set_other sets f g more d ne)) (other_begins g (get_or sets g d) ne (so_far g d l))
    ]

  pub all_began : (f : ℕ) (members : RuleSet) → BeginsBefore rules f (length rules) members → Beginning rules f members
  all_began f members so_far = record { only = so_far.only; all = so_far.all }
