-- Linear interpretations of operators: the weight of a ticket, and the constant and the coefficients of a term with variables.
use Rattle.std.specs.Prelude.{ℕ, suc, ◌+◌, ◌*◌, ◌<◌, ◌≤◌, cond, ◌==◌, Some, None, nat_lt}
use Rattle.terms.specs.Term.{Term, variable, instrument, apply, Terms, nil, cons}
use Rattle.terms.specs.Rule.{Rule}
use Rattle.sheet_reading.specs.Values.{Value, Grid, cell}
use Rattle.weighing.specs.declared.Weighing.{Weighing}
use Rattle.weighing.specs.Weighing.{times, value_at}

-- a base for each operator, and a factor for each of its arguments
pub record Linear : Type 0 where
  pub base : ℕ → ℕ
  pub factor : ℕ → ℕ → ℕ

-- the value of a term where each variable has a given one: an instrument is 0, and an operator is its base and the sum of factor times value over its arguments
abbrev mutual
  pub value : Linear → (ℕ → ℕ) → Term → ℕ
  value m of (variable x) = of x
  value m of (instrument n) = 0
  value m of (apply f ts) = m.base f + values m of f 0 ts

  -- the sum over the arguments from the k-th on
  pub values : Linear → (ℕ → ℕ) → ℕ → ℕ → Terms → ℕ
  values m of f k nil = 0
  values m of f k (cons t ts) = m.factor f k * value m of t + values m of f (suc k) ts

-- the weight of a ticket, which has no variables
abbrev pub weight : Linear → Term → ℕ
weight m = value m (λ x. 0)

-- of two tickets: the first weighs more
abbrev pub Heavier : Linear → Term → Term → Type 0
Heavier m t u = weight m u < weight m t

-- or as much
abbrev pub AsHeavy : Linear → Term → Term → Type 0
AsHeavy m t u = weight m u ≤ weight m t

-- the constant of a term: its value where each variable is 0
abbrev pub constant : Linear → Term → ℕ
constant m = value m (λ x. 0)

-- 1 for this variable, and 0 for the others
abbrev pub one_at : ℕ → ℕ → ℕ
one_at x y = cond (x == y) 1 0

-- the same factors, and every base 0
abbrev pub baseless : Linear → Linear
baseless m = record { base = λ f. 0; factor = m.factor }

-- the coefficient of a variable: what factors alone make of 1 for it
abbrev pub coefficient : Linear → ℕ → Term → ℕ
coefficient m x = value (baseless m) (one_at x)

-- no coefficient and no constant is larger on the right
pub record WeaklyOriented (m : Linear) (r : Rule) : Type 0 where
  pub coefficients : (x : ℕ) → coefficient m x r.right ≤ coefficient m x r.left
  pub constants : constant m r.right ≤ constant m r.left

-- and the left constant is larger
abbrev pub StrictlyOriented : Linear → Rule → Type 0
StrictlyOriented m r = WeaklyOriented m r × (constant m r.right < constant m r.left)

-- the interpretation that values give, by line and operator: bases in line 0, the factors of the argument k in line k + 1; '-' is the factor 1
abbrev pub base_in : Value → ℕ
base_in None = 0
base_in (Some n) = n

abbrev pub linear_from : (ℕ → ℕ → Value) → Linear
linear_from values = record { base = λ f. base_in (values 0 f); factor = λ f k. times (values (suc k) f) }

-- the interpretation that a weighing gives
abbrev pub linear_of : Weighing → Linear
linear_of w = linear_from (value_at w)

-- and the one that the lines of values of a sheet give from one on, of which the first gives the bases and the next three the factors
abbrev pub linear_in : Grid → ℕ → Linear
linear_in grid from = linear_from (λ line f. cond (nat_lt line 4) (cell grid (from + line) f) (Some 1))
