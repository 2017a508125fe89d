-- A term whose variables are among eight, and none of them twice, has at most eight of them.
use Rattle.std.proofs.Common.{◌≡◌, ℕ, zero, suc, ◌+◌, ◌<◌, ◌≤◌, cond, eqb, List, [], ◌∷◌, ◌++◌, refl, inl, inr, arith}
use Rattle.std.proofs.lemmas.Bool.{cases_lt, cond-true, cond-false, eq-eqb, ne_eqb}
use Rattle.terms.specs.Term.{Term, variable, instrument, apply, Terms, nil, cons}
use Rattle.terms.specs.Substitution.{occurrences, occurrences_in}
use Rattle.compiled.specs.Symbols.{parts_of, parts_under, is_variable}
use Rattle.compiling.specs.Compilable.{Linear}

-- how many of the parts are a variable
abbrev count : ℕ → List Term → ℕ
count x [] = 0
count x (t ∷ ts) = cond (is_variable x t) 1 0 + count x ts

count-append : (x : ℕ) (ts us : List Term) → count x (ts ++ us) ≡ count x ts + count x us
count-append x [] us = omega arith
count-append x (t ∷ ts) us = omega (arith, count-append x ts us)

mutual
  counted_of : (x : ℕ) (ts : Terms) → count x (parts_of ts) ≡ occurrences_in x ts
  counted_of x nil = refl
  counted_of x (cons t us) = omega (arith, count-append x (parts_under t) (parts_of us), counted x t, counted_of x us)

  counted : (x : ℕ) (t : Term) → count x (t ∷ parts_under t) ≡ occurrences x t
  counted x (variable y) = omega arith
  counted x (instrument n) = refl
  counted x (apply f ts) = omega (arith, counted_of x ts)

-- how many of them are variables
abbrev pub variables : List Term → ℕ
variables [] = 0
variables (variable x ∷ ts) = suc (variables ts)
variables (instrument n ∷ ts) = variables ts
variables (apply f us ∷ ts) = variables ts

-- and how many are one of the first n variables
abbrev below : ℕ → List Term → ℕ
below zero ts = 0
below (suc n) ts = below n ts + count n ts

one_same : (x : ℕ) (ts : List Term) → count x (variable x ∷ ts) ≡ suc (count x ts)
one_same x ts = omega (arith, cond-true {A = ℕ} (eqb x x) 1 0 (eq-eqb x x refl))

one_other : (x y : ℕ) (ts : List Term) → (x ≡ y → ⊥) → count x (variable y ∷ ts) ≡ count x ts
one_other x y ts apart = omega (arith, cond-false {A = ℕ} (eqb x y) 1 0 (ne_eqb x y apart))

below_past : (n y : ℕ) (ts : List Term) → n ≤ y → below n (variable y ∷ ts) ≡ below n ts
below_past zero y ts h = refl
below_past (suc n) y ts h = omega (arith, below_past n y ts (omega arith), one_other n y ts (λ e. omega (arith, e)))

below_one : (n y : ℕ) (ts : List Term) → y < n → below n (variable y ∷ ts) ≡ suc (below n ts)
below_one zero y ts h = absurd (omega arith)
below_one (suc n) y ts h = elim (cases_lt y n) [
  | inl l ↦ omega (arith, below_one n y ts l, one_other n y ts (λ e. omega (arith, e)))
  | inr l ↦ (let same : y ≡ n = omega arith in rw same (omega (arith, below_past n n ts (omega arith), one_same n ts)))
]

below_leaf : (n m : ℕ) (ts : List Term) → below n (instrument m ∷ ts) ≡ below n ts
below_leaf zero m ts = refl
below_leaf (suc n) m ts = omega (arith, below_leaf n m ts)

below_apply : (n f : ℕ) (us : Terms) (ts : List Term) → below n (apply f us ∷ ts) ≡ below n ts
below_apply zero f us ts = refl
below_apply (suc n) f us ts = omega (arith, below_apply n f us ts)

variables_below : (n : ℕ) (ts : List Term) → ((x : ℕ) → n ≤ x → count x ts ≡ 0) → variables ts ≤ below n ts
variables_below n [] h = omega arith
variables_below n (variable y ∷ ts) h =
    let within : y < n = elim (cases_lt y n) [ inl l ↦ l | inr l ↦ absurd (omega (arith, h y l, one_same y ts)) ] in
    omega (arith, below_one n y ts within, variables_below n ts (λ x l. omega (arith, h x l)))
variables_below n (instrument m ∷ ts) h = omega (arith, below_leaf n m ts, variables_below n ts (λ x l. omega (arith, h x l)))
variables_below n (apply f us ∷ ts) h = omega (arith, below_apply n f us ts, variables_below n ts (λ x l. omega (arith, h x l)))

below_few : (n : ℕ) (ts : List Term) → ((x : ℕ) → count x ts ≤ 1) → below n ts ≤ n
below_few zero ts h = omega arith
below_few (suc n) ts h = omega (arith, below_few n ts h, h n)

pub few_variables : (t : Term) → Linear t → variables (parts_under t) ≤ 8
few_variables t linear =
    let ts = parts_under t in
    omega (arith, variables_below 8 ts (λ x l. omega (arith, linear.eight x l, counted x t)), below_few 8 ts (λ x. omega (arith, linear.once x, counted x t)))
