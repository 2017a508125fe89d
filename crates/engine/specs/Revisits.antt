-- The visits that a step leaves.
use Rattle.std.specs.Prelude.{◌≡◌, ℕ, ◌<◌, ◌≤◌, Bool, true, false, List, [], ◌∷◌, length, cond, All, slice_index_or}
use Rattle.fixed_vec.specs.FixedVec.{items}
use Rattle.terms.specs.declared.symbol.Symbol.TheVariants.{Variable, Instrument, Operator}
use Rattle.compiled.specs.declared.Plan.{Plan}
use Rattle.compiled.specs.declared.Source.{Source}
use Rattle.compiled.specs.declared.Source.TheVariants.{Made, Moved, Copied}
use Rattle.engine.specs.declared.visits.Visit.{Visit}
use Rattle.engine.specs.declared.visits.Visit.TheVariants.{Reached}

abbrev pub is_operator : Source → Bool
is_operator (Made (Variable x)) = false
is_operator (Made (Instrument n)) = false
is_operator (Made (Operator f)) = true
is_operator (Moved k) = false
is_operator (Copied k) = false

-- visits to the places of these numbers, before others
abbrev pub visits_to : List ℕ → List ℕ → List Visit → List Visit
visits_to places [] vs = vs
visits_to places (k ∷ ks) vs = Reached (slice_index_or places k 0) ∷ visits_to places ks vs

-- to the operators of a right side, by the places of its symbols behind the first: arguments first, and the first symbol last
abbrev pub renewed : Plan → ℕ → List ℕ → List Visit → List Visit
renewed p place places vs = visits_to places (items p.visits) (cond (is_operator p.root.source) (Reached place ∷ vs) vs)

-- these visits are put on top, if there is room and the numbers are those of places
abbrev pub Revisits : Plan → ℕ → List ℕ → List Visit → List Visit → Type 0
Revisits p place places before after = All (λ k. k < length places) (items p.visits) → length (renewed p place places before) ≤ 16384 → after ≡ renewed p place places before
