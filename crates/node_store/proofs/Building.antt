-- Making the nodes of a term along a trace.
use Rattle.std.proofs.Common.{◌≡◌, ℕ, ◌+◌, ◌≤◌, List, [], ◌∷◌, length, None, Option, sym, refl, ap, ◌∙◌, subst, arith}
use Rattle.terms.specs.Term.{Term, Terms, nil, cons}
use Rattle.terms.specs.View.{Answers, Stands}
use Rattle.node_store.specs.Memory.{Memory}
use Rattle.node_store.specs.Placed.{Placed, none, link, Held, AreTerms}
use Rattle.node_store.specs.Work.{Work}
use Rattle.node_store.specs.Loading.{arguments_of, before, Visits, begin, visit, Built}
use Rattle.node_store.specs.Tracing.{Building}
use Rattle.node_store.proofs.Rows.{with_none}

-- what the last visit was
pub record Last (v : Answers) (start : Terms) (ps : List ℕ) (p : ℕ) (now : Terms) : Type 0 where
  pub term : Term
  pub rest : Terms
  pub earlier : Visits v start ps (cons term rest)
  pub stands : Stands v p term
  pub is : now ≡ before (arguments_of term) rest

last_visit : (v : Answers) (start : Terms) (ps : List ℕ) (p : ℕ) (now : Terms) → Visits v start (p ∷ ps) now → Last v start ps p now
last_visit v start ps p now (visit {t = t} {us = us} x s e) = record { term = t; rest = us; earlier = x; stands = s; is = e }

no_visit : (v : Answers) (start now : Terms) → Visits v start [] now → start ≡ now
no_visit v start now begin = refl

pub build_first : (v : Answers) (m : Memory) (h : Held) (qs : List Placed) (g : Placed) (t : Term) (order : List ℕ) → Work m h qs g → Visits v (cons t nil) order nil → Building v m h qs t (length order) 0 order m None
build_first v m h qs g t order w x = record { now = nil; visits = x; built = record { new = none; gone = g; work = with_none m h qs g w; begins = refl; terms = tt; free = omega arith; long = refl }; sum = omega arith }

pub build_step : (v : Answers) (m : Memory) (h : Held) (qs : List Placed) (t : Term) (n k p : ℕ) (order rest : List ℕ) (m₁ m₂ : Memory) (l r : Option ℕ) → order ≡ p ∷ rest → n ≤ m.free → length m.nodes ≤ 65536
    → ((q g : Placed) (u : Term) (us : Terms) → Work m₁ h (q ∷ qs) g → link q ≡ l → AreTerms q (before (arguments_of u) us) → Stands v p u → 1 ≤ m₁.free → length m₁.nodes ≤ 65536 → Built m₁ h qs (cons u us) 1 m₂ r)
    → Building v m h qs t n k order m₁ l → Building v m h qs t n (k + 1) rest m₂ r
build_step v m h qs t n k p order rest m₁ m₂ l r e room few add b =
    let x = last_visit v (cons t nil) rest p b.now (subst (λ o. Visits v (cons t nil) o b.now) e b.visits) in
    let many = ap length e in
    let o = b.built in
    let f = o.free in
    let s = b.sum in
    let y = add o.new o.gone x.term x.rest o.work o.begins (subst (AreTerms o.new) x.is o.terms) x.stands (omega arith) (omega (arith, o.long)) in
    record {
      now = cons x.term x.rest;
      visits = x.earlier;
      built = record { new = y.new; gone = y.gone; work = y.work; begins = y.begins; terms = y.terms; free = omega (arith, y.free); long = y.long ∙ o.long };
      sum = omega arith;
    }

pub build_last : (v : Answers) (m : Memory) (h : Held) (qs : List Placed) (t : Term) (n k : ℕ) (order : List ℕ) (m₁ : Memory) (l : Option ℕ) → length order ≡ 0 → Building v m h qs t n k order m₁ l → Built m h qs (cons t nil) n m₁ l
build_last v m h qs t n k [] m₁ l e b = subst (λ ts. Built m h qs ts n m₁ l) (sym (no_visit v (cons t nil) b.now b.visits)) (subst (λ i. Built m h qs b.now i m₁ l) (let z : k ≡ n = omega (arith, b.sum) in z) b.built)
build_last v m h qs t n k (p ∷ ps) m₁ l e b = absurd (let z : ⊥ = omega arith in z)
