-- Admission: the order is asked about each rule, and both sides of each overlap are reduced in a scratch pool, their variables standing as leaves.
use Rattle.std.specs.Prelude.{◌≡◌, ℕ, zero, suc, ◌-◌, ◌<◌, ◌≤◌, Bool, true, false, cond, ◌&&◌, ◌||◌, List, [], ◌∷◌, length, Some, None, Option, nat_le, ◌==◌}
use Rattle.std.proofs.Math.Decide.{ℕ_discrete}
use Rattle.std.proofs.Math.Option.{none, some, Option as Maybe}
use Rattle.terms.specs.Term.{Term, variable, instrument, apply, term_discrete, symbols}
use Rattle.terms.specs.Substitution.{renamed}
use Rattle.terms.specs.Position.{Position, part_at}
use Rattle.terms.specs.Rule.{Rule}
use Rattle.rewriting.specs.Rules.{rule_at, left_of}
use Rattle.rewriting.specs.Bindings.{Bindings}
use Rattle.rewriting.specs.Next.{run}
use Rattle.rewriting.specs.Positions.{positions}
use Rattle.rewriting.specs.Unifier.{unifier, first_side, second_side}
use Rattle.rewriting.specs.Order.{AllIn}
use Rattle.reading.specs.declared.refusal.Refusal.{Refusal}
use Rattle.machine.specs.Refusals.{not_oriented, different_ends, side_spent, side_short, wrong_length}
use Rattle.machine.specs.Reducing.{Stop, finished, spent, short, Reduced, reduction}

-- how many nodes a scratch pool may have at most
unfoldable pub scratch_limit : ℕ
scratch_limit = 16384

-- how many steps a side may make at most
unfoldable pub step_limit : ℕ
step_limit = 4096

-- ---- the first refusal of several

abbrev pub or_else : Option Refusal → Option Refusal → Option Refusal
or_else None r = r
or_else (Some q) r = Some q

-- by rising number
abbrev pub first_below : ℕ → (ℕ → Option Refusal) → Option Refusal
first_below zero f = None
first_below (suc n) f = or_else (first_below n f) (f n)

-- down a list
abbrev pub first_in : {A : Type 0} → List A → (A → Option Refusal) → Option Refusal
first_in [] f = None
first_in (a ∷ as') f = or_else (f a) (first_in as' f)

-- ---- the sides of an overlap

abbrev pub stop_refusal : ℕ → ℕ → Stop → Option Refusal
stop_refusal outer inner finished = None
stop_refusal outer inner spent = Some (side_spent outer inner)
stop_refusal outer inner short = Some (side_short outer inner)

-- a side that was loaded into so many free nodes, and reduced
abbrev pub side_reduced : List Rule → ℕ → Term → Reduced
side_reduced rules free t = reduction rules step_limit (free - symbols t) t

-- the term that it then is
abbrev pub side_end : List Rule → ℕ → Term → Term
side_end rules free t = run rules (side_reduced rules free t).steps t

abbrev pub side_refusal : List Rule → ℕ → ℕ → ℕ → Term → Option Refusal
side_refusal rules free outer inner t = cond (nat_le (symbols t) free) (stop_refusal outer inner (side_reduced rules free t).stop) (Some (side_short outer inner))

-- the terms at the end of both sides, if they differ
abbrev pub ends_refusal : ℕ → ℕ → Term → Term → Option Refusal
ends_refusal outer inner t u = elim (term_discrete ℕ_discrete t u) [ yes same ↦ None | no differ ↦ Some (different_ends outer inner) ]

-- the first side in an empty pool, then the second beside it, then the comparison
abbrev pub sides_refusal : List Rule → ℕ → ℕ → ℕ → Term → Term → Option Refusal
sides_refusal rules nodes outer inner t u =
    or_else (side_refusal rules nodes outer inner t)
    (or_else (side_refusal rules (nodes - symbols (side_end rules nodes t)) outer inner u)
    (ends_refusal outer inner (side_end rules nodes t) (side_end rules (nodes - symbols (side_end rules nodes t)) u)))

-- ---- every overlap

abbrev pub is_variable : Term → Bool
is_variable (variable x) = true
is_variable (instrument n) = false
is_variable (apply f ts) = false

abbrev pub is_root : Position → Bool
is_root [] = true
is_root (k ∷ p) = false

-- what the unifier makes of the outer and the inner rule, if there is one
abbrev pub unified_refusal : List Rule → ℕ → ℕ → ℕ → Position → Maybe Bindings → Option Refusal
unified_refusal rules nodes outer inner p none = None
unified_refusal rules nodes outer inner p (some m) = sides_refusal rules nodes outer inner (first_side rules outer m) (second_side rules outer inner p m)

-- at a part of the outer left side that is no variable; a rule with itself at the root is left out
abbrev pub part_refusal : List Rule → ℕ → ℕ → ℕ → Position → Maybe Term → Option Refusal
part_refusal rules nodes outer inner p none = None
part_refusal rules nodes outer inner p (some b) =
    cond (is_variable b || ((outer == inner) && is_root p)) None (unified_refusal rules nodes outer inner p (unifier b (renamed (left_of rules inner))))

abbrev pub overlap_refusal : List Rule → ℕ → ℕ → ℕ → Position → Option Refusal
overlap_refusal rules nodes outer inner p = part_refusal rules nodes outer inner p (part_at (left_of rules outer) p)

-- outer rules, inner rules and positions, in that order
abbrev pub overlaps_refusal : List Rule → ℕ → Option Refusal
overlaps_refusal rules nodes = first_below (length rules) (λ outer. first_below (length rules) (λ inner. first_in (positions (left_of rules outer)) (overlap_refusal rules nodes outer inner)))

-- ---- the whole

-- the first rule that is not in the order's strict set
pub record FirstOutside (strict : Rule → Type 0) (rules : List Rule) (rule : ℕ) : Type 0 where
  pub known : rule < length rules
  pub outside : strict (rule_at rules rule) → ⊥
  pub earlier : (k : ℕ) → k < rule → strict (rule_at rules k)

-- what admission answers, a refusal or none, with a scratch pool of so many nodes, under an order with this strict set: 16 first, then 11, then the overlaps
pub data Admission (strict : Rule → Type 0) (nodes : ℕ) (rules : List Rule) (answer : Option Refusal) : Type 0 where
  no_pool : scratch_limit < nodes → answer ≡ Some (wrong_length nodes) → Admission strict nodes rules answer
  unoriented : nodes ≤ scratch_limit → (rule : ℕ) → FirstOutside strict rules rule → answer ≡ Some (not_oriented rule) → Admission strict nodes rules answer
  tested : nodes ≤ scratch_limit → AllIn strict rules → answer ≡ overlaps_refusal rules nodes → Admission strict nodes rules answer

-- the same as a function, of a test for the strict set
abbrev pub order_refusal : (Rule → Bool) → List Rule → Option Refusal
order_refusal is_strict rules = first_below (length rules) (λ k. cond (is_strict (rule_at rules k)) None (Some (not_oriented k)))

abbrev pub admission : (Rule → Bool) → ℕ → List Rule → Option Refusal
admission is_strict nodes rules = cond (nat_le nodes scratch_limit) (or_else (order_refusal is_strict rules) (overlaps_refusal rules nodes)) (Some (wrong_length nodes))
