-- What a view answers at the place of a term.
use Rattle.std.proofs.Common.{◌≡◌, ℕ, suc, Some, None, is_some, refl, sym, ap, subst, ◌∙◌}
use Rattle.terms.specs.declared.symbol.Symbol.TheVariants.{Operator}
use Rattle.terms.specs.Term.{Term, variable, instrument, apply, Terms, nil, cons}
use Rattle.terms.specs.View.{Answers, Stands, StandFrom}
use Rattle.compiled.specs.Compiled.{BeginsWith}
use Rattle.compiled.specs.Symbols.{any}
use Rattle.compiling.specs.Walking.{Occupied}

module _ (v : Answers) (p : ℕ) where
  pub no_symbol : Occupied v p → v.symbol p ≡ None → ⊥
  no_symbol (variable x, h) e = cc (h.0, e)
  no_symbol (instrument n, h) e = cc (h.0, e)
  no_symbol (apply f ts, h) e = cc (h.0, e)

  pub any_stands : (k : ℕ) (ts : Terms) → StandFrom v p k ts → is_some (v.argument p k) ≡ any ts
  any_stands k nil h = ap is_some h
  any_stands k (cons t us) h = ap is_some h.1

  pub first_begins : (f : ℕ) (t : Term) → v.symbol p ≡ Some (Operator f) → Stands v p t → BeginsWith f t
  first_begins f (variable x) e h = let z : ⊥ = cc (h.0, e) in absurd z
  first_begins f (instrument n) e h = let z : ⊥ = cc (h.0, e) in absurd z
  first_begins f (apply g ts) e h = cc (h.0, e)

  -- the argument that a view gives is one of the terms that stand there
  pub opened : (k q : ℕ) (ts : Terms) → v.argument p k ≡ Some q → StandFrom v p k ts → (t : Term) × (us : Terms) × (ts ≡ cons t us) × Stands v q t × StandFrom v p (suc k) us
  opened k q nil e h = let z : ⊥ = (let n : None ≡ Some q = sym h ∙ e in cc) in absurd z
  opened k q (cons t us) e (r, a, h, rest) = (t, us, refl, subst (λ z. Stands v z t) (let n : r ≡ q = cc (a, e) in n) h, rest)

  pub closed : (k : ℕ) (ts : Terms) → v.argument p k ≡ None → StandFrom v p k ts → ts ≡ nil
  closed k nil e h = refl
  closed k (cons t us) e (r, a, h, rest) = let z : ⊥ = cc (a, e) in absurd z
