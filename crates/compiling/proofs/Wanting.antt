-- What is wanted in front of an argument.
use Rattle.std.proofs.Common.{◌≡◌, ℕ, zero, suc, ◌+◌, true, List, Some, None, Option, refl, inl, inr, sym, subst, ap, ◌∙◌, arith}
use Rattle.std.proofs.lemmas.Bool.{cases_lt}
use Rattle.terms.specs.declared.node.Node.{Node}
use Rattle.terms.specs.Term.{Term, variable, instrument, apply, Terms, nil, cons}
use Rattle.terms.specs.Nodes.{along, node_answers}
use Rattle.terms.specs.View.{Answers, Stands, StandFrom}
use Rattle.terms.proofs.Nodes.{argument_within, argument_past}
use Rattle.compiled.specs.Compiled.{may_begin, may_begin_at, may_begin_under}
use Rattle.compiling.specs.Noting.{allows}

-- where an argument is missing, the next one is too
pub along_ends : (ns : List Node) (l : Option ℕ) (k : ℕ) → along ns l k ≡ None → along ns l (suc k) ≡ None
along_ends ns l zero e = ap (λ m. along ns m 1) e
along_ends ns None (suc k) e = refl
along_ends ns (Some q) (suc k) e = along_ends ns _ k e

abbrev pub Ends : Answers → ℕ → Type 0
Ends v p = (k : ℕ) → v.argument p k ≡ None → v.argument p (suc k) ≡ None

pub nodes_end : (ns : List Node) (p : ℕ) → Ends (node_answers ns) p
nodes_end ns p k e = elim (cases_lt (suc k) 3) [
  | inl l ↦ argument_within ns p (suc k) l ∙ along_ends ns _ k (sym (argument_within ns p k (omega arith)) ∙ e)
  | inr l ↦ argument_past ns p (suc k) l
]

allows_front : (v : Answers) (q : ℕ) (t : Term) (o : Option ℕ) → Stands v q t → allows (v.symbol q) o ≡ may_begin t o
allows_front v q (variable x) o h = ap (λ s. allows s o) h.0
allows_front v q (instrument n) o h = ap (λ s. allows s o) h.0
allows_front v q (apply f ts) o h = ap (λ s. allows s o) h.0

module _ (v : Answers) (p : ℕ) (ends : Ends v p) (o : Option ℕ) where
  ends_far : (k n m : ℕ) → m ≡ k + n → v.argument p k ≡ None → v.argument p m ≡ None
  ends_far k zero m at e = subst (λ j. v.argument p j ≡ None) (let j : k ≡ m = omega (arith, at) in j) e
  ends_far k (suc n) m at e = ends_far (suc k) n m (omega (arith, at)) (ends k e)

  missing_at : (ts : Terms) (k n m : ℕ) → m ≡ k + n → StandFrom v p k ts → v.argument p m ≡ None → true ≡ may_begin_at n ts o
  missing_at nil k n m at h e = refl
  missing_at (cons t ts) k zero m at (q, a, stands, rest) e =
      let here = subst (λ j. v.argument p j ≡ None) (let j : m ≡ k = omega (arith, at) in j) e in
      let z : ⊥ = cc (a, here) in absurd z
  missing_at (cons t ts) k (suc n) m at (q, a, stands, rest) e = missing_at ts (suc k) n m (omega (arith, at)) rest e

  found_at : (ts : Terms) (k n m r : ℕ) → m ≡ k + n → StandFrom v p k ts → v.argument p m ≡ Some r → allows (v.symbol r) o ≡ may_begin_at n ts o
  found_at nil k n m r at h e =
      let none = ends_far k n m at h in
      let z : ⊥ = cc (none, e) in absurd z
  found_at (cons t ts) k zero m r at (q, a, stands, rest) e =
      let here = subst (λ j. v.argument p j ≡ Some r) (let j : m ≡ k = omega (arith, at) in j) e in
      allows_front v r t o (subst (λ j. Stands v j t) (let j : q ≡ r = cc (a, here) in j) stands)
  found_at (cons t ts) k (suc n) m r at (q, a, stands, rest) e = found_at ts (suc k) n m r (omega (arith, at)) rest e

  pub missing_under : (t : Term) (n : ℕ) → Stands v p t → v.argument p n ≡ None → true ≡ may_begin_under n t o
  missing_under (variable x) n h e = refl
  missing_under (instrument m) n h e = refl
  missing_under (apply f ts) n h e = missing_at ts 0 n n (omega arith) h.1 e

  pub found_under : (t : Term) (n r : ℕ) → Stands v p t → v.argument p n ≡ Some r → allows (v.symbol r) o ≡ may_begin_under n t o
  found_under (variable x) n r h e =
      let none = ends_far 0 n n (omega arith) h.1 in
      let z : ⊥ = cc (none, e) in absurd z
  found_under (instrument m) n r h e =
      let none = ends_far 0 n n (omega arith) h.1 in
      let z : ⊥ = cc (none, e) in absurd z
  found_under (apply f ts) n r h e = found_at ts 0 n n r (omega arith) h.1 e
