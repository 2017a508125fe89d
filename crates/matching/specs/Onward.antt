-- Going through rows in reading order.
use Rattle.std.specs.Prelude.{◌≡◌, ℕ, ◌<◌, List, [], ◌∷◌, length, Some, None, Option}
use Rattle.std.specs.List.{cons_option}

-- the places to come: the one that is next, and those that were put off
abbrev pub Ahead : Option ℕ → List ℕ → List ℕ → Type 0
Ahead None later ps = (later ≡ []) × (ps ≡ [])
Ahead (Some p) later ps = ps ≡ p ∷ later

-- a row of arguments comes first, then the later siblings, then what was put off before, if there is room
abbrev pub Goes : ℕ → Option ℕ → Option ℕ → List ℕ → List ℕ → Option ℕ → Type 0
Goes n first next old new result = length old < n → Ahead result new (cons_option first (cons_option next old))
