-- A count of symbols, step by step.
use Rattle.std.proofs.Common.{◌≡◌, ℕ, suc, ◌+◌, ◌<◌, ◌≤◌, List, [], ◌∷◌, Some, sym, refl, subst, zero-add, arith}
use Rattle.terms.specs.Term.{Term, nil, cons, symbols}
use Rattle.terms.specs.View.{Answers, Stands}
use Rattle.traversal.specs.Walks.{most_symbols, Counted, StandsWith}
use Rattle.traversal.specs.Rows.{StandAll, Many, Visited}
use Rattle.traversal.specs.Counting.{Counting}

pub at_start : (v : Answers) (root : ℕ) (stack : List ℕ) → stack ≡ root ∷ [] → Counting v root 0 stack
at_start v root stack e = record {
  onward = λ all s. (all, zero-add all, subst (λ l. Many v l all) (sym e) s);
  back = λ m s. let r = subst (λ l. Many v l m) e s in (r.0, r.1, omega (arith, r.2));
}

pub one_more : (v : Answers) (root n p : ℕ) (stack before after : List ℕ) → stack ≡ p ∷ before → Counting v root n stack → Visited v (p ∷ before) after (Some tt) → Counting v root (n + 1) after
one_more v root n p stack before after e c (back, onward) = record {
  onward = λ all s.
      let o = c.onward all s in
      let r = onward o.0 (subst (λ l. Many v l o.0) e o.2) in
      (r.0, omega (arith, o.1, r.1), r.2);
  back = λ m s.
      let r = c.back (suc m) (subst (λ l. Many v l (suc m)) (sym e) (back m s)) in
      (r.0, r.1, omega (arith, r.2));
}

-- a term as the only one of a row
alone : (v : Answers) (root : ℕ) (t : Term) → Stands v root t → Many v (root ∷ []) (symbols t)
alone v root t s = (cons t nil, (s, tt), omega arith)

lone : (v : Answers) (root m : ℕ) → Many v (root ∷ []) m → (t : Term) × Stands v root t × (symbols t ≡ m)
lone v root m (nil, s, e) = absurd s
lone v root m (cons t nil, s, e) = (t, s.0, omega arith)
lone v root m (cons t (cons u us), s, e) = absurd s.1

pub counted : (v : Answers) (root n : ℕ) (stack : List ℕ) → stack ≡ [] → n ≤ 16384 → Counting v root n stack → Counted v root (Some n)
unfolding most_symbols
counted v root n stack e few c =
    let t = lone v root (n + 0) (c.back 0 (nil, subst (λ l. StandAll v l nil) (sym e) tt, refl)) in
    (t.0, (t.1, omega (arith, t.2)), omega (arith, t.2))

-- too many symbols are counted
pub too_many : (v : Answers) (root n : ℕ) (stack : List ℕ) → 16384 < n → Counting v root n stack → (t : Term) → StandsWith v root t → ⊥
unfolding most_symbols
too_many v root n stack more c t (s, few) =
    let o = c.onward (symbols t) (alone v root t s) in
    omega (arith, o.1)

pub not_visited : (v : Answers) (root n p : ℕ) (stack before : List ℕ) → stack ≡ p ∷ before → Counting v root n stack → ((m : ℕ) → Many v (p ∷ before) m → most_symbols < m) → (t : Term) → StandsWith v root t → ⊥
not_visited v root n p stack before e c more t (s, few) =
    let o = c.onward (symbols t) (alone v root t s) in
    let many = more o.0 (subst (λ l. Many v l o.0) e o.2) in
    omega (arith, o.1)
