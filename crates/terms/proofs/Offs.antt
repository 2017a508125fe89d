-- What is read off a view is the term that stands there.
use Rattle.std.proofs.Common.{◌≡◌, ℕ, zero, suc, ◌*◌, ◌<◌, ◌≤◌, ap, ◌∙◌, arith}
use Rattle.terms.specs.Term.{Term, variable, instrument, apply, Terms, nil, cons, symbols, symbols_in}
use Rattle.terms.specs.View.{Answers, Stands, StandFrom}
use Rattle.terms.specs.Off.{term_with, row_with, read_off, arguments_off}

some_symbols : (t : Term) → 1 ≤ symbols t
some_symbols (variable x) = omega arith
some_symbols (instrument n) = omega arith
some_symbols (apply f ts) = omega arith

mutual
  pub off_stands : (v : Answers) (p : ℕ) (t : Term) (n : ℕ) → Stands v p t → 2 * symbols t ≤ n → read_off n v p ≡ t
  off_stands v p t zero h l = absurd (omega (arith, some_symbols t))
  off_stands v p (variable x) (suc n) h l = ap (λ y. term_with y (arguments_off n v p 0)) h.0
  off_stands v p (instrument x) (suc n) h l = ap (λ y. term_with y (arguments_off n v p 0)) h.0
  off_stands v p (apply f ts) (suc n) h l = ap (λ y. term_with y (arguments_off n v p 0)) h.0 ∙ ap (apply f) (row_stands v p 0 ts n h.1 (omega arith))

  row_stands : (v : Answers) (p k : ℕ) (ts : Terms) (n : ℕ) → StandFrom v p k ts → 2 * symbols_in ts < n → arguments_off n v p k ≡ ts
  row_stands v p k nil zero h l = absurd (omega arith)
  row_stands v p k (cons t ts) zero h l = absurd (omega (arith, some_symbols t))
  row_stands v p k nil (suc n) h l = ap (λ a. row_with a (λ q. read_off n v q) (arguments_off n v p (suc k))) h
  row_stands v p k (cons t ts) (suc n) (q, e, h, rest) l =
      let s = some_symbols t in
      ap (λ a. row_with a (λ q. read_off n v q) (arguments_off n v p (suc k))) e ∙ (λ i. cons (off_stands v q t n h (omega arith) i) (row_stands v p (suc k) ts n rest (omega arith) i))
