-- First-order terms: a variable, an instrument, or an operator over its arguments.
use Rattle.std.specs.Prelude.{ℕ, zero, suc, ◌+◌}

mutual
  pub data Term : Type 0 where
    variable : ℕ → Term
    instrument : ℕ → Term
    apply : ℕ → Terms → Term
    deriving Discrete as term_discrete

  -- a row of arguments
  pub data Terms : Type 0 where
    nil : Terms
    cons : Term → Terms → Terms
    deriving Discrete as terms_discrete

-- how many terms a row has
abbrev pub how_many : Terms → ℕ
how_many nil = zero
how_many (cons t ts) = suc (how_many ts)

-- the symbols of a term: its variables, instruments and operators, each occurrence counted
abbrev mutual
  pub symbols : Term → ℕ
  symbols (variable x) = 1
  symbols (instrument n) = 1
  symbols (apply f ts) = suc (symbols_in ts)

  pub symbols_in : Terms → ℕ
  symbols_in nil = zero
  symbols_in (cons t ts) = symbols t + symbols_in ts
