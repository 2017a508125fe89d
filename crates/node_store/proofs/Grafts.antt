-- Another symbol and another row of arguments at one place of a row.
use Rattle.std.proofs.Common.{◌≡◌, ℕ, ◌+◌, ◌<◌, ◌≤◌, ◌==◌, cond, Bool, true, false, List, length, get_or, set, Option, sym, refl, ap, ◌∙◌, subst, ⊎_elim, arith}
use Rattle.std.proofs.lemmas.List.{get_or-set_same, get_or-set_other, length-set}
use Rattle.terms.specs.declared.node.Node.{Node}
use Rattle.terms.specs.declared.symbol.Symbol.{Symbol}
use Rattle.terms.specs.Nodes.{vacant}
use Rattle.node_store.specs.Placed.{Placed, none, at, link, Holds, hit, occ, size}
use Rattle.node_store.specs.Grafting.{graft, Sub, here, under, later}
use Rattle.node_store.proofs.Placing.{hit_self, no_hit, keep_set}
use Rattle.node_store.proofs.Standing.{hit_cases}
use Rattle.node_store.proofs.Helds.{hit_yes, hit_none}

-- the sum over the places of a row
abbrev pub total : (ℕ → ℕ) → Placed → ℕ
total f none = 0
total f (at i s ks us) = f i + (total f ks + total f us)

pub total-hit : (j : ℕ) (q : Placed) → total (hit j) q ≡ occ j q
total-hit j none = refl
total-hit j (at i s ks us) = let a = total-hit j ks in let b = total-hit j us in omega arith

pub total-one : (q : Placed) → total (λ i. 1) q ≡ size q
total-one none = refl
total-one (at i s ks us) = let a = total-one ks in let b = total-one us in omega arith

-- the node and what is under it are in the row
pub sub_occs : {p : ℕ} {s : Option Symbol} {ks q : Placed} → Sub p s ks q → (j : ℕ) → hit j p + occ j ks ≤ occ j q
sub_occs here j = omega arith
sub_occs (under x) j = let o = sub_occs x j in omega arith
sub_occs (later x) j = let o = sub_occs x j in omega arith

pub sub_occ : {p : ℕ} {s : Option Symbol} {ks q : Placed} → Sub p s ks q → 1 ≤ occ p q
sub_occ {p = p} x = let o = sub_occs x p in let h = hit_self p in omega arith

pub sub_holds : {p : ℕ} {s : Option Symbol} {ks q : Placed} (ns : List Node) → Sub p s ks q → Holds ns q → Holds ns ks
sub_holds ns here h = h.2
sub_holds ns (under x) h = sub_holds ns x h.2
sub_holds ns (later x) h = sub_holds ns x h.3

-- what the nodes say at the place
pub sub_node : {p : ℕ} {s : Option Symbol} {ks q : Placed} (ns : List Node) → Sub p s ks q → Holds ns q → (p < length ns) × (get_or ns p vacant ≡ record { symbol = s; first = link ks; next = (get_or ns p vacant).next })
sub_node ns (here {s = s} {ks = ks}) h = (h.0, h.1 ∙ (λ d. record { symbol = s; first = link ks; next = sym (ap (λ (x : Node). x.next) h.1) d }))
sub_node ns (under x) h = sub_node ns x h.2
sub_node ns (later x) h = sub_node ns x h.3

-- what stands under a node of the row stands in the row
pub sub_sub : {p i : ℕ} {s t : Option Symbol} {ks js q : Placed} → Sub p s ks js → Sub i t js q → Sub p s ks q
sub_sub x here = under x
sub_sub x (under y) = under (sub_sub x y)
sub_sub x (later y) = later (sub_sub x y)

-- at the place itself, and elsewhere
module _ (p : ℕ) (s : Option Symbol) (a : Placed) where
  pub graft-here : (i : ℕ) (t : Option Symbol) (js us : Placed) → p ≡ i → graft p s a (at i t js us) ≡ at i s a us
  graft-here i t js us e = ap (λ c. cond c (at i s a us) (at i t (graft p s a js) (graft p s a us))) (hit_yes p i e)

  pub graft-there : (i : ℕ) (t : Option Symbol) (js us : Placed) → hit p i ≡ 0 → graft p s a (at i t js us) ≡ at i t (graft p s a js) (graft p s a us)
  graft-there i t js us z = ap (λ c. cond c (at i s a us) (at i t (graft p s a js) (graft p s a us))) (hit_none p i z)

  -- nothing changes where the place is not
  pub graft-none : (q : Placed) → occ p q ≡ 0 → graft p s a q ≡ q
  graft-none none z = refl
  graft-none (at i t js us) z =
      let x = graft-none js (omega arith) in
      let y = graft-none us (omega arith) in
      graft-there i t js us (omega arith) ∙ (λ d. at i t (x d) (y d))

  pub graft-link : (q : Placed) → link (graft p s a q) ≡ link q
  graft-link none = refl
  graft-link (at i t js us) = ⊎_elim (λ (e : p ≡ i). ap link (graft-here i t js us e)) (λ (z : hit p i ≡ 0). ap link (graft-there i t js us z)) (hit_cases p i)

  -- a second graft at the place hides the first
  pub graft-graft : (s′ : Option Symbol) (a′ q : Placed) → graft p s a (graft p s′ a′ q) ≡ graft p s a q
  graft-graft s′ a′ none = refl
  graft-graft s′ a′ (at i t js us) = go (p == i) refl (graft-graft s′ a′ js) (graft-graft s′ a′ us)
    where
      go : (b : Bool) → (p == i) ≡ b → graft p s a (graft p s′ a′ js) ≡ graft p s a js → graft p s a (graft p s′ a′ us) ≡ graft p s a us → graft p s a (graft p s′ a′ (at i t js us)) ≡ graft p s a (at i t js us)
      go true e x y = rw e (rw e refl)
      go false e x y = rw e (rw e (λ d. at i t (x d) (y d)))

  -- all sums over places change by what is put there and what was there
  pub total-graft : (f : ℕ → ℕ) {sp : Option Symbol} {kp q : Placed} → Sub p sp kp q → occ p q ≤ 1 → total f (graft p s a q) + total f kp ≡ total f q + total f a
  total-graft f (here {s = t} {ks = js} {us = us}) o = let e = ap (total f) (graft-here p t js us refl) in omega arith
  total-graft f (under {i = i} {t = t} {js = js} {us = us} x) o =
      let n = sub_occ x in
      let e = ap (total f) (graft-there i t js us (omega arith)) in
      let u = ap (total f) (graft-none us (omega arith)) in
      let y = total-graft f x (omega arith) in
      omega arith
  total-graft f (later {i = i} {t = t} {js = js} {us = us} x) o =
      let n = sub_occ x in
      let e = ap (total f) (graft-there i t js us (omega arith)) in
      let u = ap (total f) (graft-none js (omega arith)) in
      let y = total-graft f x (omega arith) in
      omega arith

  pub occ-graft : {sp : Option Symbol} {kp q : Placed} (j : ℕ) → Sub p sp kp q → occ p q ≤ 1 → occ j (graft p s a q) + occ j kp ≡ occ j q + occ j a
  occ-graft {kp = kp} {q = q} j x o =
      let y = total-graft (hit j) x o in
      let b = total-hit j (graft p s a q) in
      let c = total-hit j kp in
      let d = total-hit j q in
      let e = total-hit j a in
      omega arith

  pub size-graft : {sp : Option Symbol} {kp q : Placed} → Sub p sp kp q → occ p q ≤ 1 → size (graft p s a q) + size kp ≡ size q + size a
  size-graft {kp = kp} {q = q} x o =
      let y = total-graft (λ i. 1) x o in
      let b = total-one (graft p s a q) in
      let c = total-one kp in
      let d = total-one q in
      let e = total-one a in
      omega arith

  -- what is put there stands there
  pub sub_graft : {sp : Option Symbol} {kp q : Placed} → Sub p sp kp q → occ p q ≤ 1 → Sub p s a (graft p s a q)
  sub_graft (here {s = t} {ks = js} {us = us}) o = subst (Sub p s a) (sym (graft-here p t js us refl)) here
  sub_graft (under {i = i} {t = t} {js = js} {us = us} x) o =
      let n = sub_occ x in subst (Sub p s a) (sym (graft-there i t js us (omega arith))) (under (sub_graft x (omega arith)))
  sub_graft (later {i = i} {t = t} {js = js} {us = us} x) o =
      let n = sub_occ x in subst (Sub p s a) (sym (graft-there i t js us (omega arith))) (later (sub_graft x (omega arith)))

-- what stands at a place is put there again
pub graft-same : {p : ℕ} {s : Option Symbol} {ks q : Placed} → Sub p s ks q → occ p q ≤ 1 → graft p s ks q ≡ q
graft-same (here {p = p} {s = s} {ks = ks} {us = us}) o = graft-here p s ks p s ks us refl
graft-same (under {p = p} {i = i} {s = s} {t = t} {ks = ks} {js = js} {us = us} x) o =
    let n = sub_occ x in
    let y = graft-same x (omega arith) in
    let z = graft-none p s ks us (omega arith) in
    graft-there p s ks i t js us (omega arith) ∙ (λ d. at i t (y d) (z d))
graft-same (later {p = p} {i = i} {s = s} {t = t} {ks = ks} {js = js} {us = us} x) o =
    let n = sub_occ x in
    let y = graft-same x (omega arith) in
    let z = graft-none p s ks js (omega arith) in
    graft-there p s ks i t js us (omega arith) ∙ (λ d. at i t (z d) (y d))

module _ (ns : List Node) (p : ℕ) (s : Option Symbol) (a : Placed) (x : Node) (is : x ≡ record { symbol = s; first = link a; next = (get_or ns p vacant).next }) (out : occ p a ≡ 0) (h : Holds ns a) where
  -- the nodes are as the grafted row says
  pub graft_holds : {sp : Option Symbol} {kp q : Placed} → Sub p sp kp q → occ p q ≤ 1 → Holds ns q → Holds (set ns p x) (graft p s a q)
  graft_holds (here {s = t} {ks = js} {us = us}) o k =
      let y = hit_self p in
      let l = length-set ns p x in
      subst (Holds (set ns p x)) (sym (graft-here p s a p t js us refl)) (
        omega (arith, k.0),
        get_or-set_same ns p x vacant k.0 ∙ is ∙ (λ d. record { symbol = s; first = link a; next = (k.1 d).next }),
        keep_set ns p x a out h,
        keep_set ns p x us (omega arith) k.3,
      )
  graft_holds (under {i = i} {t = t} {js = js} {us = us} y) o k =
      let n = sub_occ y in
      let l = length-set ns p x in
      let z : hit p i ≡ 0 = omega arith in
      let u = graft-none p s a us (omega arith) in
      subst (Holds (set ns p x)) (sym (graft-there p s a i t js us z)) (
        omega (arith, k.0),
        get_or-set_other ns p i x vacant (λ e. no_hit p i z (sym e)) ∙ k.1 ∙ (λ d. record { symbol = t; first = sym (graft-link p s a js) d; next = link (sym u d) }),
        graft_holds y (omega arith) k.2,
        subst (Holds (set ns p x)) (sym u) (keep_set ns p x us (omega arith) k.3),
      )
  graft_holds (later {i = i} {t = t} {js = js} {us = us} y) o k =
      let n = sub_occ y in
      let l = length-set ns p x in
      let z : hit p i ≡ 0 = omega arith in
      let u = graft-none p s a js (omega arith) in
      subst (Holds (set ns p x)) (sym (graft-there p s a i t js us z)) (
        omega (arith, k.0),
        get_or-set_other ns p i x vacant (λ e. no_hit p i z (sym e)) ∙ k.1 ∙ (λ d. record { symbol = t; first = link (sym u d); next = sym (graft-link p s a us) d }),
        subst (Holds (set ns p x)) (sym u) (keep_set ns p x js (omega arith) k.2),
        graft_holds y (omega arith) k.3,
      )
