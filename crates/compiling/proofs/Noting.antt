-- Putting the rules into sets from the first on.
use Rattle.std.proofs.Common.{◌≡◌, ℕ, ◌+◌, ◌<◌, ◌≤◌, Bool, true, false, ◌==◌, ◌&&◌, ◌||◌, List, length, get_or, set, Some, None, Option, refl, sym, subst, ap, ◌∙◌, inl, inr, arith}
use Rattle.std.proofs.lemmas.Bool.{cases_lt, ne_eqb, eqb-false, true_from_ne_false}
use Rattle.terms.specs.declared.symbol.Symbol.{Symbol}
use Rattle.terms.specs.Rule.{Rule}
use Rattle.rewriting.specs.Rules.{left_of}
use Rattle.rule_set.specs.declared.RuleSet.{RuleSet}
use Rattle.rule_set.specs.Members.{has}
use Rattle.compiled.specs.Compiled.{may_begin_under, FrontsOf}
use Rattle.compiled.specs.declared.Fronts.{Fronts}
use Rattle.compiling.specs.Noting.{allows, Noted}

-- the first k rules are in the set where this may be in front of their n-th argument
pub record NotedBefore (rules : List Rule) (n k : ℕ) (o : Option ℕ) (set : RuleSet) : Type 0 where
  pub before : (i : ℕ) → i < k → has set i ≡ may_begin_under n (left_of rules i) o
  pub after : (i : ℕ) → k ≤ i → has set i ≡ false

pub same_eqb : (k : ℕ) → (k == k) ≡ true
same_eqb k = true_from_ne_false (k == k) (λ e. eqb-false k k e refl)

kept : (a b x m : Bool) → m ≡ ((a && b) || x) → b ≡ false → m ≡ x
kept true b x m e f = e ∙ ap (λ c. c || x) f
kept false b x m e f = e

put : (a b x m : Bool) → m ≡ ((a && b) || x) → b ≡ true → x ≡ false → m ≡ a
put true b x m e t none = e ∙ ap (λ c. c || x) t
put false b x m e t none = e ∙ none

module _ (rules : List Rule) (n : ℕ) (o : Option ℕ) where
  pub none_noted : (set : RuleSet) → ((i : ℕ) → has set i ≡ false) → NotedBefore rules n 0 o set
  none_noted set none = record { before = λ i l. absurd (omega arith); after = λ i l. none i }

  pub one_noted : (k : ℕ) (s : Option Symbol) (set more : RuleSet) → NotedBefore rules n k o set → allows s o ≡ may_begin_under n (left_of rules k) o → Noted set k s o more → NotedBefore rules n (k + 1) o more
  one_noted k s set more so_far same noted = record {
    before = λ i l. elim (cases_lt i k) [
      | inl m ↦ kept (allows s o) (i == k) _ _ (noted i) (ne_eqb i k (λ e. omega (arith, e))) ∙ so_far.before i m
      | inr m ↦
          let at : i ≡ k = omega arith in
          subst (λ j. has more j ≡ may_begin_under n (left_of rules j) o) (sym at) (put (allows s o) (k == k) _ _ (noted k) (same_eqb k) (so_far.after k (omega arith)) ∙ same)
    ];
    after = λ i l. kept (allows s o) (i == k) _ _ (noted i) (ne_eqb i k (λ e. omega (arith, e))) ∙ so_far.after i (omega arith);
  }

pub all_noted : (rules : List Rule) (n : ℕ) (fs : Fronts) → ((f : ℕ) (d : RuleSet) → f < 32 → NotedBefore rules n (length rules) (Some f) (get_or fs.operators f d)) → NotedBefore rules n (length rules) None fs.others → FrontsOf rules n fs
all_noted rules n fs operators others = record {
  operators = λ i f d l low. (operators f d low).before i l;
  others = λ i l. others.before i l;
}

-- the rule is put into the sets of the first k operators
pub record NotedBelow (before after : List RuleSet) (rule : ℕ) (s : Option Symbol) (k : ℕ) : Type 0 where
  pub many : length after ≡ 32
  pub done : (f : ℕ) (d : RuleSet) → f < k → Noted (get_or before f d) rule s (Some f) (get_or after f d)
  pub rest : (f : ℕ) (d : RuleSet) → k ≤ f → get_or after f d ≡ get_or before f d
