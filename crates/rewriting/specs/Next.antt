-- The next step: as a relation, and as a function.
use Rattle.std.specs.Prelude.{◌≡◌, ◌≢◌, ◌⊎◌, ℕ, zero, suc, ◌<◌, cond, List, [], ◌∷◌, length, ◌==◌}
use Rattle.std.proofs.Math.Option.{Option, none, some}
use Rattle.terms.specs.Term.{Term, Terms, variable, instrument, apply, nil, cons}
use Rattle.terms.specs.Substitution.{fill}
use Rattle.terms.specs.Position.{Position, part_at}
use Rattle.terms.specs.Rule.{Rule}
use Rattle.rewriting.specs.Rules.{rule_at, Matches, SomeMatches}
use Rattle.rewriting.specs.Step.{StepAt}
use Rattle.rewriting.specs.Bindings.{Bindings, bound, joined}

-- reading order: a position comes before those inside it, and those of an argument before those of a later one
abbrev pub Before : Position → Position → Type 0
Before p [] = ⊥
Before [] (k ∷ q) = Unit {0}
Before (i ∷ p) (k ∷ q) = (i < k) ⊎ ((i ≡ k) × Before p q)

-- at the position a rule matches, and none matches strictly inside
pub record Innermost (rules : List Rule) (t : Term) (p : Position) : Type 0 where
  pub part : Term
  pub stands : part_at t p ≡ some part
  pub matched : SomeMatches rules part
  pub clear : (i : ℕ) (q : Position) (b : Term) → part_at part (i ∷ q) ≡ some b → SomeMatches rules b → ⊥

-- the next step: at the first such position in reading order, by the lowest-numbered rule that matches there
pub record NextStep (rules : List Rule) (t u : Term) : Type 0 where
  pub position : Position
  pub innermost : Innermost rules t position
  pub first : (q : Position) → Before q position → Innermost rules t q → ⊥
  pub rule : ℕ
  pub known : rule < length rules
  pub lowest : (k : ℕ) → k < rule → Matches (rule_at rules k) innermost.part → ⊥
  pub step : StepAt (rule_at rules rule) position t u

-- how a left side without a variable twice matches a term
abbrev mutual
  pub matching : Term → Term → Option Bindings
  matching (variable x) t = some ((x, t) ∷ [])
  matching (instrument n) (variable y) = none
  matching (instrument n) (instrument k) = cond (n == k) (some []) none
  matching (instrument n) (apply g us) = none
  matching (apply f ts) (variable y) = none
  matching (apply f ts) (instrument k) = none
  matching (apply f ts) (apply g us) = cond (f == g) (matching_all ts us) none

  pub matching_all : Terms → Terms → Option Bindings
  matching_all nil nil = some []
  matching_all nil (cons u us) = none
  matching_all (cons t ts) nil = none
  matching_all (cons t ts) (cons u us) = joined (matching t u) (matching_all ts us)

-- what the lowest-numbered rule that matches a term makes of it
abbrev pub contracted : List Rule → Term → Option Term
contracted [] t = none
contracted (r ∷ rules) t = elim (matching r.left t) [ none ↦ contracted rules t | some m ↦ some (fill (bound m) r.right) ]

-- the term after the next step, if there is one
abbrev mutual
  pub next : List Rule → Term → Option Term
  next rules (variable x) = contracted rules (variable x)
  next rules (instrument n) = contracted rules (instrument n)
  next rules (apply f ts) = elim (next_in rules ts) [ none ↦ contracted rules (apply f ts) | some us ↦ some (apply f us) ]

  -- the next step in the first term of a row that has one
  pub next_in : List Rule → Terms → Option Terms
  next_in rules nil = none
  next_in rules (cons t ts) = elim (next rules t) [ none ↦ elim (next_in rules ts) [ none ↦ none | some us ↦ some (cons t us) ] | some u ↦ some (cons u ts) ]

-- the term after so many next steps, or after all of them, if there are no more
abbrev pub run : List Rule → ℕ → Term → Term
run rules zero t = t
run rules (suc n) t = elim (next rules t) [ none ↦ t | some u ↦ run rules n u ]

-- from a term there are that many next steps, and then no more
pub record EndsAfter (rules : List Rule) (t : Term) (n : ℕ) : Type 0 where
  pub going : (k : ℕ) → k < n → next rules (run rules k t) ≢ none
  pub ended : next rules (run rules n t) ≡ none
