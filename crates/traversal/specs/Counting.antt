-- What a count under way knows.
use Rattle.std.specs.Prelude.{◌≡◌, ℕ, ◌+◌, List, [], ◌∷◌}
use Rattle.terms.specs.View.{Answers}
use Rattle.traversal.specs.Rows.{Many}

-- n symbols of the term at the root are counted, and the rest of it stands at the places of the stack
pub record Counting (v : Answers) (root n : ℕ) (stack : List ℕ) : Type 0 where
  pub onward : (all : ℕ) → Many v (root ∷ []) all → (m : ℕ) × (n + m ≡ all) × Many v stack m
  pub back : (m : ℕ) → Many v stack m → Many v (root ∷ []) (n + m)
