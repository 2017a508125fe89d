-- The positions of a term in reading order.
use Rattle.std.specs.Prelude.{◌≡◌, ℕ, suc, List, [], ◌∷◌, ◌++◌, map}
use Rattle.std.specs.List.{Contains, AllPairs}
use Rattle.std.proofs.Math.Option.{some}
use Rattle.terms.specs.Term.{Term, Terms, variable, instrument, apply, nil, cons}
use Rattle.terms.specs.Position.{Position, part_at}
use Rattle.rewriting.specs.Next.{Before}

abbrev mutual
  pub positions : Term → List Position
  positions (variable x) = [] ∷ []
  positions (instrument n) = [] ∷ []
  positions (apply f ts) = [] ∷ positions_in 0 ts

  -- those in a row whose first term is the argument of number k
  pub positions_in : ℕ → Terms → List Position
  positions_in k nil = []
  positions_in k (cons t ts) = map (λ p. k ∷ p) (positions t) ++ positions_in (suc k) ts

-- each position at which something stands is listed, no other is, and each stands before those that come later in reading order
pub record ListsPositions (t : Term) (ps : List Position) : Type 0 where
  pub all : (p : Position) (b : Term) → part_at t p ≡ some b → Contains ps p
  pub only : (p : Position) → Contains ps p → (b : Term) × (part_at t p ≡ some b)
  pub in_order : AllPairs Before ps
