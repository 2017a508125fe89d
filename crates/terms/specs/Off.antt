-- The term that a view spells at a place, read off by following its answers.
use Rattle.std.specs.Prelude.{ℕ, zero, suc, Some, None, Option}
use Rattle.terms.specs.declared.symbol.Symbol.{Symbol}
use Rattle.terms.specs.declared.symbol.Symbol.TheVariants.{Variable, Instrument, Operator}
use Rattle.terms.specs.Term.{Term, variable, instrument, apply, Terms, nil, cons}
use Rattle.terms.specs.View.{Answers}

-- the term with this symbol over these arguments; where nothing stands, the instrument 1 stands in
abbrev pub term_with : Option Symbol → Terms → Term
term_with None ts = instrument 1
term_with (Some (Variable x)) ts = variable x
term_with (Some (Instrument m)) ts = instrument m
term_with (Some (Operator f)) ts = apply f ts

-- the argument at a place, if there is one, and the further ones
abbrev pub row_with : Option ℕ → (ℕ → Term) → Terms → Terms
row_with None term ts = nil
row_with (Some q) term ts = cons (term q) ts

-- so many links are followed at most
abbrev mutual
  pub read_off : ℕ → Answers → ℕ → Term
  read_off zero v p = instrument 1
  read_off (suc n) v p = term_with (v.symbol p) (arguments_off n v p 0)

  -- the arguments from the k-th on
  pub arguments_off : ℕ → Answers → ℕ → ℕ → Terms
  arguments_off zero v p k = nil
  arguments_off (suc n) v p k = row_with (v.argument p k) (λ q. read_off n v q) (arguments_off n v p (suc k))
