-- Sums over the numbers at which variables stand.
use Rattle.std.proofs.Common.{◌≡◌, ◌≢◌, ℕ, zero, suc, ◌+◌, ◌≤◌, ◌==◌, cond, Bool, true, false, not, ◌||◌, List, [], ◌∷◌, ◌++◌, map, sum, refl, sym, ap, ◌∙◌, ⊎_elim, arith}
use Rattle.std.proofs.lemmas.Bool.{false≢true}
use Rattle.std.proofs.lemmas.Bool.Decides.{eqb_tells}
use Rattle.std.proofs.lemmas.List.Sums.{sum_by-cons}
use Rattle.terms.specs.Term.{Term, variable, instrument, apply, Terms, nil, cons}
use Rattle.terms.specs.Substitution.{occurrences, occurrences_in}
use Rattle.compiled.specs.Symbols.{parts_of, parts_under, is_variable, has_variable, home}
use Rattle.compiled.specs.Plans.{dropped_from}

-- how often a variable stands among parts
abbrev pub times : ℕ → List Term → ℕ
times x [] = 0
times x (t ∷ ts) = cond (is_variable x t) 1 0 + times x ts

pub times_append : (x : ℕ) (ts us : List Term) → times x (ts ++ us) ≡ times x ts + times x us
times_append x [] us = omega arith
times_append x (t ∷ ts) us = let h = times_append x ts us in omega arith

mutual
  pub times_term : (x : ℕ) (t : Term) → times x (t ∷ parts_under t) ≡ occurrences x t
  times_term x (variable y) = omega arith
  times_term x (instrument n) = refl
  times_term x (apply f ts) = let h = times_row x ts in omega arith

  pub times_row : (x : ℕ) (ts : Terms) → times x (parts_of ts) ≡ occurrences_in x ts
  times_row x nil = refl
  times_row x (cons t us) =
      let a = times_term x t in
      let b = times_row x us in
      let c = times_append x (parts_under t) (parts_of us) in
      omega arith

-- it is there if it stands there at least once
pub has_times : (x : ℕ) (ts : List Term) → has_variable x ts ≡ true → 1 ≤ times x ts
has_times x [] h = absurd (false≢true h)
has_times x (t ∷ ts) h = go (is_variable x t) h (has_times x ts)
  where
    go : (b : Bool) → (b || has_variable x ts) ≡ true → (has_variable x ts ≡ true → 1 ≤ times x ts) → 1 ≤ cond b 1 0 + times x ts
    go true h r = omega arith
    go false h r = let y = r h in omega arith

pub times_has : (x : ℕ) (ts : List Term) → 1 ≤ times x ts → has_variable x ts ≡ true
times_has x [] h = absurd (let y : ⊥ = omega arith in y)
times_has x (t ∷ ts) h = go (is_variable x t) h (times_has x ts)
  where
    go : (b : Bool) → 1 ≤ cond b 1 0 + times x ts → (1 ≤ times x ts → has_variable x ts ≡ true) → (b || has_variable x ts) ≡ true
    go true h r = refl
    go false h r = r (omega arith)

module _ (w : ℕ → ℕ) where
  -- over the numbers, counted from k, of variables that pass a test
  abbrev pub sum_at : (ℕ → Bool) → ℕ → List Term → ℕ
  sum_at c k [] = 0
  sum_at c k (variable x ∷ ts) = cond (c x) (w k) 0 + sum_at c (suc k) ts
  sum_at c k (instrument n ∷ ts) = sum_at c (suc k) ts
  sum_at c k (apply f us ∷ ts) = sum_at c (suc k) ts

  pub sum_dropped : (k : ℕ) (ts right : List Term) → sum (map w (dropped_from k ts right)) ≡ sum_at (λ x. not (has_variable x right)) k ts
  sum_dropped k [] right = refl
  sum_dropped k (variable x ∷ ts) right = go (has_variable x right) (sum_dropped (suc k) ts right)
    where
      go : (b : Bool) → sum (map w (dropped_from (suc k) ts right)) ≡ sum_at (λ x. not (has_variable x right)) (suc k) ts
          → sum (map w (cond b (dropped_from (suc k) ts right) (k ∷ dropped_from (suc k) ts right))) ≡ cond (not b) (w k) 0 + sum_at (λ x. not (has_variable x right)) (suc k) ts
      go true h = omega arith
      go false h = let c = sum_by-cons (λ x. x) (w k) (map w (dropped_from (suc k) ts right)) in omega arith
  sum_dropped k (instrument n ∷ ts) right = sum_dropped (suc k) ts right
  sum_dropped k (apply f us ∷ ts) right = sum_dropped (suc k) ts right

  -- those that pass and those that do not
  pub sum_both : (c : ℕ → Bool) (k : ℕ) (ts : List Term) → sum_at c k ts + sum_at (λ x. not (c x)) k ts ≡ sum_at (λ x. true) k ts
  sum_both c k [] = refl
  sum_both c k (variable x ∷ ts) = go (c x) (sum_both c (suc k) ts)
    where
      go : (b : Bool) → sum_at c (suc k) ts + sum_at (λ x. not (c x)) (suc k) ts ≡ sum_at (λ x. true) (suc k) ts → cond b (w k) 0 + sum_at c (suc k) ts + (cond (not b) (w k) 0 + sum_at (λ x. not (c x)) (suc k) ts) ≡ w k + sum_at (λ x. true) (suc k) ts
      go true h = omega arith
      go false h = omega arith
  sum_both c k (instrument n ∷ ts) = sum_both c (suc k) ts
  sum_both c k (apply f us ∷ ts) = sum_both c (suc k) ts

  pub sum_none : (k : ℕ) (ts : List Term) → sum_at (λ x. false) k ts ≡ 0
  sum_none k [] = refl
  sum_none k (variable x ∷ ts) = let h = sum_none (suc k) ts in omega arith
  sum_none k (instrument n ∷ ts) = sum_none (suc k) ts
  sum_none k (apply f us ∷ ts) = sum_none (suc k) ts

  -- a test of other variables alone, where one does not stand
  sum_apart : (x : ℕ) (c d : ℕ → Bool) (k : ℕ) (ts : List Term) → ((y : ℕ) → x ≢ y → d y ≡ c y) → times x ts ≡ 0 → sum_at d k ts ≡ sum_at c k ts
  sum_apart x c d k [] e z = refl
  sum_apart x c d k (variable y ∷ ts) e z = ⊎_elim
      (λ (h : ((x == y) ≡ true) × (x ≡ y)). absurd (let o = ap (λ b. cond b 1 0 + times x ts) h.0 in let q : ⊥ = omega arith in q))
      (λ (h : ((x == y) ≡ false) × (x ≢ y)). let r = sum_apart x c d (suc k) ts e (omega arith) in (λ i. cond (e y h.1 i) (w k) 0 + r i))
      (eqb_tells x y)
  sum_apart x c d k (instrument n ∷ ts) e z = sum_apart x c d (suc k) ts e (omega arith)
  sum_apart x c d k (apply f us ∷ ts) e z = sum_apart x c d (suc k) ts e (omega arith)

  -- one variable more passes, which stands at one number
  pub sum_more : (x : ℕ) (c d : ℕ → Bool) (k : ℕ) (ts : List Term) → ((y : ℕ) → x ≢ y → d y ≡ c y) → c x ≡ false → d x ≡ true → times x ts ≡ 1 → sum_at d k ts ≡ sum_at c k ts + w (k + home x ts)
  sum_more x c d k [] e f g z = absurd (let q : ⊥ = omega arith in q)
  sum_more x c d k (variable y ∷ ts) e f g z = ⊎_elim
      (λ (h : ((x == y) ≡ true) × (x ≡ y)).
      let o = ap (λ b. cond b 1 0 + times x ts) h.0 in
      let r = sum_apart x c d (suc k) ts e (omega arith) in
      let a = ap (λ b. cond b (w k) 0) (ap c (sym h.1) ∙ f) in
      let b = ap (λ b. cond b (w k) 0) (ap d (sym h.1) ∙ g) in
      let n = ap (λ b. w (k + cond b zero (suc (home x ts)))) h.0 ∙ ap w (let q : k + 0 ≡ k = omega arith in q) in
      omega arith)
      (λ (h : ((x == y) ≡ false) × (x ≢ y)).
      let o = ap (λ b. cond b 1 0 + times x ts) h.0 in
      let r = sum_more x c d (suc k) ts e f g (omega arith) in
      let a = ap (λ b. cond b (w k) 0) (e y h.1) in
      let n = ap (λ b. w (k + cond b zero (suc (home x ts)))) h.0 ∙ ap w (let q : k + suc (home x ts) ≡ suc k + home x ts = omega arith in q) in
      omega arith)
      (eqb_tells x y)
  sum_more x c d k (instrument n ∷ ts) e f g z = sum_more x c d (suc k) ts e f g (omega arith) ∙ ap (λ i. sum_at c (suc k) ts + w i) (let q : suc k + home x ts ≡ k + suc (home x ts) = omega arith in q)
  sum_more x c d k (apply h us ∷ ts) e f g z = sum_more x c d (suc k) ts e f g (omega arith) ∙ ap (λ i. sum_at c (suc k) ts + w i) (let q : suc k + home x ts ≡ k + suc (home x ts) = omega arith in q)
