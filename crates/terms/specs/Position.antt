-- Positions in a term: argument numbers from the root down, each from 0.
use Rattle.std.specs.Prelude.{ℕ, zero, suc, List, [], ◌∷◌}
use Rattle.std.proofs.Math.Option.{Option, none, some}
use Rattle.terms.specs.Term.{Term, variable, instrument, apply, Terms, nil, cons}

abbrev pub Position : Type 0
Position = List ℕ

-- what stands at a position, if the term has it
abbrev mutual
  pub part_at : Term → Position → Option Term
  part_at (variable x) [] = some (variable x)
  part_at (variable x) (k ∷ p) = none
  part_at (instrument n) [] = some (instrument n)
  part_at (instrument n) (k ∷ p) = none
  part_at (apply f ts) [] = some (apply f ts)
  part_at (apply f ts) (k ∷ p) = part_in ts k p

  pub part_in : Terms → ℕ → Position → Option Term
  part_in nil k p = none
  part_in (cons t ts) zero p = part_at t p
  part_in (cons t ts) (suc k) p = part_in ts k p

-- the term with another one at a position; the term itself, where it has no such position
abbrev mutual
  pub put_at : Term → Position → Term → Term
  put_at (variable x) [] u = u
  put_at (variable x) (k ∷ p) u = variable x
  put_at (instrument n) [] u = u
  put_at (instrument n) (k ∷ p) u = instrument n
  put_at (apply f ts) [] u = u
  put_at (apply f ts) (k ∷ p) u = apply f (put_in ts k p u)

  pub put_in : Terms → ℕ → Position → Term → Terms
  put_in nil k p u = nil
  put_in (cons t ts) zero p u = cons (put_at t p u) ts
  put_in (cons t ts) (suc k) p u = cons t (put_in ts k p u)
