-- What testing the two sides of an overlap means, in the words of reductions.
use Rattle.std.specs.Prelude.{◌≡◌, ◌≢◌, ◌⊎◌, ℕ, ◌-◌, ◌<◌, ◌≤◌, List, Some, None, Option}
use Rattle.terms.specs.Term.{Term, symbols}
use Rattle.terms.specs.Rule.{Rule}
use Rattle.rewriting.specs.Next.{run}
use Rattle.reading.specs.declared.refusal.Refusal.{Refusal}
use Rattle.machine.specs.Refusals.{different_ends, side_spent, side_short}
use Rattle.machine.specs.Reducing.{Stop, finished, spent, short, IsReduction}
use Rattle.machine.specs.Admission.{step_limit}

-- a side can be loaded into so many free nodes, and its reduction makes so many steps and stops for this reason
pub record SideStops (rules : List Rule) (free : ℕ) (t : Term) (n : ℕ) (stop : Stop) : Type 0 where
  pub loads : symbols t ≤ free
  pub reduction : IsReduction rules step_limit (free - symbols t) t (record { steps = n; stop = stop })

-- it cannot be loaded, or its next step needs more nodes than are free
abbrev pub SideShort : List Rule → ℕ → Term → Type 0
SideShort rules free t = (free < symbols t) ⊎ ((n : ℕ) × SideStops rules free t n short)

abbrev pub SideSpent : List Rule → ℕ → Term → Type 0
SideSpent rules free t = (n : ℕ) × SideStops rules free t n spent

-- what is answered, a refusal or none: the first side in an empty pool, then the second beside it, then the comparison
pub data SidesAnswer (rules : List Rule) (nodes outer inner : ℕ) (t u : Term) (answer : Option Refusal) : Type 0 where
  first_short : SideShort rules nodes t → answer ≡ Some (side_short outer inner) → SidesAnswer rules nodes outer inner t u answer
  first_spent : SideSpent rules nodes t → answer ≡ Some (side_spent outer inner) → SidesAnswer rules nodes outer inner t u answer
  second_short : (n : ℕ) → SideStops rules nodes t n finished → SideShort rules (nodes - symbols (run rules n t)) u → answer ≡ Some (side_short outer inner) → SidesAnswer rules nodes outer inner t u answer
  second_spent : (n : ℕ) → SideStops rules nodes t n finished → SideSpent rules (nodes - symbols (run rules n t)) u → answer ≡ Some (side_spent outer inner) → SidesAnswer rules nodes outer inner t u answer
  ends_differ : (n k : ℕ) → SideStops rules nodes t n finished → SideStops rules (nodes - symbols (run rules n t)) u k finished → run rules n t ≢ run rules k u → answer ≡ Some (different_ends outer inner) → SidesAnswer rules nodes outer inner t u answer
  ends_agree : (n k : ℕ) → SideStops rules nodes t n finished → SideStops rules (nodes - symbols (run rules n t)) u k finished → run rules n t ≡ run rules k u → answer ≡ None → SidesAnswer rules nodes outer inner t u answer
