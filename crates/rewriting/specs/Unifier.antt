-- Unifiers of terms that share no variables, and the overlaps of rules.
use Rattle.std.specs.Prelude.{◌≡◌, ℕ, ◌+◌, ◌<◌, ◌≤◌, cond, List, [], ◌∷◌, length, ◌==◌}
use Rattle.std.proofs.Math.Option.{Option, none, some}
use Rattle.terms.specs.Term.{Term, Terms, variable, instrument, apply, nil, cons}
use Rattle.terms.specs.Substitution.{fill, occurrences, renamed}
use Rattle.terms.specs.Position.{Position, part_at, put_at}
use Rattle.terms.specs.Rule.{Rule}
use Rattle.rewriting.specs.Rules.{left_of, right_of}
use Rattle.rewriting.specs.Bindings.{Bindings, bound, joined}

-- the term that two terms without a common variable become: the other one where one is a variable, the same leaf where both are equal leaves, and the same operator over what the arguments become; else there is none
abbrev mutual
  pub common : Term → Term → Option Term
  common (variable x) u = some u
  common (instrument n) (variable y) = some (instrument n)
  common (instrument n) (instrument k) = cond (n == k) (some (instrument n)) none
  common (instrument n) (apply g us) = none
  common (apply f ts) (variable y) = some (apply f ts)
  common (apply f ts) (instrument k) = none
  common (apply f ts) (apply g us) = cond (f == g) (elim (common_all ts us) [ none ↦ none | some vs ↦ some (apply f vs) ]) none

  pub common_all : Terms → Terms → Option Terms
  common_all nil nil = some nil
  common_all nil (cons u us) = none
  common_all (cons t ts) nil = none
  common_all (cons t ts) (cons u us) = elim (common t u) [ none ↦ none | some v ↦ elim (common_all ts us) [ none ↦ none | some vs ↦ some (cons v vs) ] ]

-- what makes them that term: a variable is bound to what stands on the other side, equal leaves bind nothing, and equal operators bind what their arguments do
abbrev mutual
  pub unifier : Term → Term → Option Bindings
  unifier (variable x) u = some ((x, u) ∷ [])
  unifier (instrument n) (variable y) = some ((y, instrument n) ∷ [])
  unifier (instrument n) (instrument k) = cond (n == k) (some []) none
  unifier (instrument n) (apply g us) = none
  unifier (apply f ts) (variable y) = some ((y, apply f ts) ∷ [])
  unifier (apply f ts) (instrument k) = none
  unifier (apply f ts) (apply g us) = cond (f == g) (unifier_all ts us) none

  pub unifier_all : Terms → Terms → Option Bindings
  unifier_all nil nil = some []
  unifier_all nil (cons u us) = none
  unifier_all (cons t ts) nil = none
  unifier_all (cons t ts) (cons u us) = joined (unifier t u) (unifier_all ts us)

-- no variable stands twice in the two together
abbrev pub Separate : Term → Term → Type 0
Separate a b = (x : ℕ) → occurrences x a + occurrences x b ≤ 1

abbrev pub IsVariable : Term → Type 0
IsVariable (variable x) = Unit {0}
IsVariable (instrument n) = ⊥
IsVariable (apply f ts) = ⊥

-- an overlap of an outer rule and an inner rule, renamed: the part at a position of the outer left side, which is no variable, and the inner left side have a unifier. A rule with itself at the root is none
pub record Overlap (rules : List Rule) (outer inner : ℕ) (p : Position) (m : Bindings) : Type 0 where
  pub outer_known : outer < length rules
  pub inner_known : inner < length rules
  pub part : Term
  pub stands : part_at (left_of rules outer) p ≡ some part
  pub no_variable : IsVariable part → ⊥
  pub not_itself : outer ≡ inner → p ≡ [] → ⊥
  pub unified : unifier part (renamed (left_of rules inner)) ≡ some m

-- the outer right side, filled
abbrev pub first_side : List Rule → ℕ → Bindings → Term
first_side rules outer m = fill (bound m) (right_of rules outer)

-- the outer left side with the inner right side at the position, filled
abbrev pub second_side : List Rule → ℕ → ℕ → Position → Bindings → Term
second_side rules outer inner p m = fill (bound m) (put_at (left_of rules outer) p (renamed (right_of rules inner)))
