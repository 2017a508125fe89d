-- Substitutions: a term for each variable.
use Rattle.std.specs.Prelude.{ℕ, zero, ◌+◌, ◌%◌, cond, ◌==◌}
use Rattle.terms.specs.Term.{Term, variable, instrument, apply, Terms, nil, cons}

abbrev pub Substitution : Type 0
Substitution = ℕ → Term

-- the term with every variable filled
abbrev mutual
  pub fill : Substitution → Term → Term
  fill σ (variable x) = σ x
  fill σ (instrument n) = instrument n
  fill σ (apply f ts) = apply f (fill_all σ ts)

  pub fill_all : Substitution → Terms → Terms
  fill_all σ nil = nil
  fill_all σ (cons t ts) = cons (fill σ t) (fill_all σ ts)

-- how often a variable stands in a term
abbrev mutual
  pub occurrences : ℕ → Term → ℕ
  occurrences x (variable y) = cond (x == y) 1 0
  occurrences x (instrument n) = 0
  occurrences x (apply f ts) = occurrences_in x ts

  pub occurrences_in : ℕ → Terms → ℕ
  occurrences_in x nil = zero
  occurrences_in x (cons t ts) = occurrences x t + occurrences_in x ts

-- the term with its variables counted eight higher modulo 16, so that two terms over variables 0 to 7 share none
abbrev pub renamed : Term → Term
renamed t = fill (λ x. variable ((x + 8) % 16)) t
