-- Nodes of a row and positions of its terms: what stands at a node is a part, and what is grafted there is put in its place.
use Rattle.std.proofs.Common.{◌≡◌, ℕ, zero, suc, ◌≤◌, [], ◌∷◌, Option, sym, refl, ap, ◌∙◌, subst, arith}
use Rattle.std.proofs.Math.Option.{some}
use Rattle.terms.specs.declared.symbol.Symbol.{Symbol}
use Rattle.terms.specs.Term.{Term, variable, instrument, apply, Terms, nil, cons, how_many}
use Rattle.terms.specs.Position.{Position, part_at, part_in, put_at, put_in}
use Rattle.rewriting.proofs.Filling.{none_some, part_root, put_root}
use Rattle.node_store.specs.Placed.{Placed, none, at, occ, IsTerm, AreTerms}
use Rattle.node_store.specs.Grafting.{graft, Sub, here, under, later}
use Rattle.node_store.proofs.Grafts.{sub_occ, graft-here, graft-there, graft-none}

-- the node at a place of a row is the root of the part at a position, and any term that is grafted there is put at that position
pub record PartIn (p : ℕ) (sp : Option Symbol) (kp q : Placed) (ts : Terms) : Type 0 where
  pub index : ℕ
  pub position : Position
  pub part : Term
  pub stands : part_in ts index position ≡ some part
  pub is : IsTerm sp kp part
  pub put : (s : Option Symbol) (a : Placed) (u : Term) → IsTerm s a u → AreTerms (graft p s a q) (put_in ts index position u)

put_in_many : (ts : Terms) (k : ℕ) (p : Position) (u : Term) → how_many (put_in ts k p u) ≡ how_many ts
put_in_many nil k p u = refl
put_in_many (cons t ts) zero p u = refl
put_in_many (cons t ts) (suc k) p u = ap suc (put_in_many ts k p u)

no_sub : {p : ℕ} {s : Option Symbol} {ks : Placed} → Sub p s ks none → ⊥
no_sub x = elim x [ ]

module _ (p i : ℕ) (sp t : Option Symbol) (kp js us : Placed) (x : Term) (ts : Terms) where
  -- at the first term of the row
  first_part : p ≡ i → sp ≡ t → kp ≡ js → IsTerm t js x → AreTerms us ts → PartIn p sp kp (at i t js us) (cons x ts)
  first_part e f g is a = record {
    index = 0;
    position = [];
    part = x;
    stands = part_root x;
    is = subst (λ k. IsTerm sp k x) (sym g) (subst (λ s. IsTerm s js x) (sym f) is);
    put = λ s b u w. subst (λ r. AreTerms r (cons (put_at x [] u) ts)) (sym (graft-here p s b i t js us e)) (subst (IsTerm s b) (sym (put_root x u)) w, a);
  }

  -- in a later one
  later_part : (z : (s : Option Symbol) (b : Placed) → graft p s b (at i t js us) ≡ at i t js (graft p s b us)) → IsTerm t js x → PartIn p sp kp us ts → PartIn p sp kp (at i t js us) (cons x ts)
  later_part z is r = record {
    index = suc r.index;
    position = r.position;
    part = r.part;
    stands = r.stands;
    is = r.is;
    put = λ s b u w. subst (λ q. AreTerms q (cons x (put_in ts r.index r.position u))) (sym (z s b)) (is, r.put s b u w);
  }

-- under the first term of the row
under_part : (p i : ℕ) (sp t : Option Symbol) (kp js us : Placed) (f : ℕ) (xs ts : Terms) → ((s : Option Symbol) (b : Placed) → graft p s b (at i t js us) ≡ at i t (graft p s b js) us) → IsTerm t js (apply f xs) → AreTerms us ts → PartIn p sp kp js xs → PartIn p sp kp (at i t js us) (cons (apply f xs) ts)
under_part p i sp t kp js us f xs ts z is a r = record {
  index = 0;
  position = r.index ∷ r.position;
  part = r.part;
  stands = r.stands;
  is = r.is;
  put = λ s b u w. subst (λ q. AreTerms q (cons (apply f (put_in xs r.index r.position u)) ts)) (sym (z s b)) ((is.0, (let m = put_in_many xs r.index r.position u in omega (arith, is.1)), r.put s b u w), a);
}

pub sub_part : {p : ℕ} {sp : Option Symbol} {kp q : Placed} (ts : Terms) → Sub p sp kp q → occ p q ≤ 1 → AreTerms q ts → PartIn p sp kp q ts
sub_part nil here o a = absurd a
sub_part nil (under x) o a = absurd a
sub_part nil (later x) o a = absurd a
sub_part (cons y ts) (here {p = p} {s = s} {ks = ks} {us = us}) o a = first_part p p s s ks ks us y ts refl refl refl a.0 a.1
sub_part (cons y ts) (later {p = p} {i = i} {s = s} {t = t} {ks = ks} {js = js} {us = us} x) o a =
    let n = sub_occ x in
    later_part p i s t ks js us y ts (λ c b. graft-there p c b i t js us (omega arith) ∙ ap (λ k. at i t k (graft p c b us)) (graft-none p c b js (omega arith))) a.0 (sub_part ts x (omega arith) a.1)
sub_part (cons (apply f xs) ts) (under {p = p} {i = i} {s = s} {t = t} {ks = ks} {js = js} {us = us} x) o a =
    let n = sub_occ x in
    under_part p i s t ks js us f xs ts (λ c b. graft-there p c b i t js us (omega arith) ∙ ap (λ k. at i t (graft p c b js) k) (graft-none p c b us (omega arith))) a.0 a.1 (sub_part xs x (omega arith) a.0.2)
sub_part (cons (variable v) ts) (under {p = p} {s = s} {ks = ks} x) o a = absurd (no_sub (subst (Sub p s ks) a.0.1 x))
sub_part (cons (instrument v) ts) (under {p = p} {s = s} {ks = ks} x) o a = absurd (no_sub (subst (Sub p s ks) a.0.1 x))

-- the same of a term with its root
pub record PartOf (r p : ℕ) (sp : Option Symbol) (kp : Placed) (s : Option Symbol) (ks : Placed) (t : Term) : Type 0 where
  pub position : Position
  pub part : Term
  pub stands : part_at t position ≡ some part
  pub is : IsTerm sp kp part
  pub put : (s′ : Option Symbol) (a : Placed) (u : Term) (s₂ : Option Symbol) (ks₂ : Placed) → IsTerm s′ a u → at r s₂ ks₂ none ≡ graft p s′ a (at r s ks none) → IsTerm s₂ ks₂ (put_at t position u)

pub part_of : {r p : ℕ} {sp s : Option Symbol} {kp ks : Placed} (t : Term) → Sub p sp kp (at r s ks none) → occ p (at r s ks none) ≤ 1 → IsTerm s ks t → PartOf r p sp kp s ks t
part_of {r = r} {p = p} {sp = sp} {s = s} {kp = kp} {ks = ks} t x o is = let i = sub_part (cons t nil) x o (is, tt) in go i.index i.position i.part i.stands i.is i.put
  where
    go : (k : ℕ) (pos : Position) (b : Term) → part_in (cons t nil) k pos ≡ some b → IsTerm sp kp b → ((s′ : Option Symbol) (a : Placed) (u : Term) → IsTerm s′ a u → AreTerms (graft p s′ a (at r s ks none)) (put_in (cons t nil) k pos u)) → PartOf r p sp kp s ks t
    go zero pos b e w f = record { position = pos; part = b; stands = e; is = w; put = λ s′ a u s₂ ks₂ v z. (subst (λ q. AreTerms q (cons (put_at t pos u) nil)) (sym z) (f s′ a u v)).0 }
    go (suc k) pos b e w f = absurd (none_some e)
