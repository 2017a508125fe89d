-- Writing another symbol and another row of arguments at one node, in a row and in a held term.
use Rattle.std.proofs.Common.{◌≡◌, ℕ, ◌<◌, ◌≤◌, List, ◌∷◌, length, get_or, Some, Option, sym, refl, ap, ◌∙◌, subst, ⊎_elim, ◌⊎◌, inl, inr, arith}
use Rattle.std.proofs.lemmas.List.{get_or-set_same, get_or-set_other, length-set}
use Rattle.terms.specs.declared.node.Node.{Node}
use Rattle.terms.specs.declared.symbol.Symbol.{Symbol}
use Rattle.terms.specs.Term.{Term}
use Rattle.terms.specs.Nodes.{vacant}
use Rattle.node_store.specs.Memory.{Memory, laid_over}
use Rattle.node_store.specs.Placed.{Placed, none, at, link, occ, IsTerm, Held, also, AllHeld}
use Rattle.node_store.specs.Work.{Work}
use Rattle.node_store.specs.Grafting.{graft, Sub, here, under, later}
use Rattle.node_store.proofs.Placing.{hit_self, no_hit, keep_set, keep_all_set, keep_rows_set}
use Rattle.node_store.proofs.Helds.{blank_set}
use Rattle.node_store.proofs.Grafts.{sub_occs, sub_occ, sub_holds, sub_node, graft-here, graft-there, graft-link, occ-graft, graft_holds}

-- no place is twice in a row, nor in a held term
pub row_once : (m : Memory) (h : Held) (q : Placed) (qs : List Placed) (g : Placed) → Work m h (q ∷ qs) g → (j : ℕ) → occ j q ≤ 1
row_once m h q qs g w j = let o = w.once j in omega arith

pub held_once : (m : Memory) (r : ℕ) (s : Option Symbol) (ks : Placed) (t : Term) (h : Held) (qs : List Placed) (g : Placed) → Work m (also r s ks t h) qs g → (j : ℕ) → occ j (at r s ks none) ≤ 1
held_once m r s ks t h qs g w j = let o = w.once j in omega arith

-- what is written
abbrev over : Memory → ℕ → Option Symbol → Option ℕ → Node
over m p s l = record { symbol = s; first = l; next = (get_or m.nodes p vacant).next }

-- in a row beside the held terms
pub row_grafted : (m : Memory) (h : Held) (q a : Placed) (qs : List Placed) (g : Placed) (p : ℕ) (sp : Option Symbol) (kp : Placed) (s : Option Symbol) (l : Option ℕ) → Sub p sp kp q → link a ≡ l → Work m h (q ∷ a ∷ qs) g → Work (laid_over m p s l) h (graft p s a q ∷ kp ∷ qs) g
row_grafted m h q a qs g p sp kp s l x e w =
    let n = over m p s l in
    let o = w.once p in
    let i = sub_occ x in
    let u = sub_occs x p in
    let y = hit_self p in
    let z = length-set m.nodes p n in
    record {
      terms = keep_all_set m.nodes p n h (omega arith) w.terms;
      rows = (
        graft_holds m.nodes p s a n (λ d. record { symbol = s; first = sym e d; next = (get_or m.nodes p vacant).next }) (omega arith) w.rows.1.0 x (omega arith) w.rows.0,
        (keep_set m.nodes p n kp (omega arith) (sub_holds m.nodes x w.rows.0), keep_rows_set m.nodes p n qs (omega arith) w.rows.1.1),
      );
      begins = w.begins;
      row = keep_set m.nodes p n g (omega arith) w.row;
      once = λ j. let b = w.once j in let v = occ-graft p s a j x (omega arith) in omega arith;
      blank = blank_set m.nodes m.fresh p n (omega arith) w.blank;
      within = omega (arith, w.within);
      count = omega (arith, w.count);
    }

module _ (m : Memory) (h : Held) (r : ℕ) (s : Option Symbol) (ks : Placed) (t : Term) (a : Placed) (qs : List Placed) (g : Placed) (w : Work m (also r s ks t h) (a ∷ qs) g) where
  -- at the root of a held term
  pub root_grafted : (s′ : Option Symbol) (l : Option ℕ) (u : Term) → link a ≡ l → IsTerm s′ a u → Work (laid_over m r s′ l) (also r s′ a u h) (ks ∷ qs) g
  root_grafted s′ l u e is =
      let n = over m r s′ l in
      let o = w.once r in
      let y = hit_self r in
      let z = length-set m.nodes r n in
      record {
        terms = (
          omega (arith, w.terms.0),
          get_or-set_same m.nodes r n vacant w.terms.0 ∙ (λ d. record { symbol = s′; first = sym e d; next = (w.terms.1 d).next }),
          keep_set m.nodes r n a (omega arith) w.rows.0,
          is,
          keep_all_set m.nodes r n h (omega arith) w.terms.4,
        );
        rows = (keep_set m.nodes r n ks (omega arith) w.terms.2, keep_rows_set m.nodes r n qs (omega arith) w.rows.1);
        begins = w.begins;
        row = keep_set m.nodes r n g (omega arith) w.row;
        once = λ j. let o = w.once j in omega arith;
        blank = blank_set m.nodes m.fresh r n (omega arith) w.blank;
        within = omega (arith, w.within);
        count = omega (arith, w.count);
      }

  -- below it
  pub under_grafted : (p : ℕ) (sp : Option Symbol) (kp : Placed) (s′ : Option Symbol) (l : Option ℕ) (u : Term) → Sub p sp kp ks → link a ≡ l → IsTerm s (graft p s′ a ks) u → Work (laid_over m p s′ l) (also r s (graft p s′ a ks) u h) (kp ∷ qs) g
  under_grafted p sp kp s′ l u x e is =
      let n = over m p s′ l in
      let o = w.once p in
      let i = sub_occ x in
      let v = sub_occs x p in
      let y = hit_self p in
      let z = length-set m.nodes p n in
      record {
        terms = (
          omega (arith, w.terms.0),
          get_or-set_other m.nodes p r n vacant (λ e. no_hit p r (omega arith) (sym e)) ∙ w.terms.1 ∙ (λ d. record { symbol = s; first = sym (graft-link p s′ a ks) d; next = Some r }),
          graft_holds m.nodes p s′ a n (λ d. record { symbol = s′; first = sym e d; next = (get_or m.nodes p vacant).next }) (omega arith) w.rows.0 x (omega arith) w.terms.2,
          is,
          keep_all_set m.nodes p n h (omega arith) w.terms.4,
        );
        rows = (keep_set m.nodes p n kp (omega arith) (sub_holds m.nodes x w.terms.2), keep_rows_set m.nodes p n qs (omega arith) w.rows.1);
        begins = w.begins;
        row = keep_set m.nodes p n g (omega arith) w.row;
        once = λ j. let c = w.once j in let b = occ-graft p s′ a j x (omega arith) in omega arith;
        blank = blank_set m.nodes m.fresh p n (omega arith) w.blank;
        within = omega (arith, w.within);
        count = omega (arith, w.count);
      }

-- the root itself, or below it
pub record AtRoot (r : ℕ) (s : Option Symbol) (ks : Placed) (p : ℕ) (sp : Option Symbol) (kp : Placed) : Type 0 where
  pub place : p ≡ r
  pub symbol : sp ≡ s
  pub under : kp ≡ ks

pub root_or_under : {r p : ℕ} {s sp : Option Symbol} {ks kp : Placed} → Sub p sp kp (at r s ks none) → AtRoot r s ks p sp kp ⊎ Sub p sp kp ks
root_or_under here = inl (record { place = refl; symbol = refl; under = refl })
root_or_under (under x) = inr x
root_or_under (later x) = elim x [ ]

-- what the nodes say at a place of a held term
pub held_node : {p r : ℕ} {sp s : Option Symbol} {kp ks : Placed} (ns : List Node) (t : Term) (h : Held) → Sub p sp kp (at r s ks none) → AllHeld ns (also r s ks t h) → (p < length ns) × (get_or ns p vacant ≡ record { symbol = sp; first = link kp; next = (get_or ns p vacant).next })
held_node {p = p} {r = r} {sp = sp} {s = s} {kp = kp} {ks = ks} ns t h x k = ⊎_elim here_is (λ y. sub_node ns y k.2) (root_or_under x)
  where
    here_is : AtRoot r s ks p sp kp → (p < length ns) × (get_or ns p vacant ≡ record { symbol = sp; first = link kp; next = (get_or ns p vacant).next })
    here_is y =
        let e : get_or ns p vacant ≡ get_or ns r vacant = ap (λ i. get_or ns i vacant) y.place in
        (subst (λ i. i < length ns) (sym y.place) k.0, e ∙ k.1 ∙ (λ d. record { symbol = sym y.symbol d; first = link (sym y.under d); next = sym (ap (λ (n : Node). n.next) (e ∙ k.1)) d }))

-- anywhere in a held term
pub regrafted : (m : Memory) (h : Held) (r : ℕ) (s : Option Symbol) (ks : Placed) (t : Term) (a : Placed) (qs : List Placed) (g : Placed) (p : ℕ) (sp : Option Symbol) (kp : Placed) (s′ : Option Symbol) (l : Option ℕ) (s₂ : Option Symbol) (ks₂ : Placed) (t₂ : Term) → Work m (also r s ks t h) (a ∷ qs) g → Sub p sp kp (at r s ks none) → link a ≡ l → at r s₂ ks₂ none ≡ graft p s′ a (at r s ks none) → IsTerm s₂ ks₂ t₂ → Work (laid_over m p s′ l) (also r s₂ ks₂ t₂ h) (kp ∷ qs) g
regrafted m h r s ks t a qs g p sp kp s′ l s₂ ks₂ t₂ w x e v is = ⊎_elim root below (root_or_under x)
  where
    root : AtRoot r s ks p sp kp → Work (laid_over m p s′ l) (also r s₂ ks₂ t₂ h) (kp ∷ qs) g
    root y =
        let u = v ∙ graft-here p s′ a r s ks none y.place in
        let i : s₂ ≡ s′ = cc in
        let j : ks₂ ≡ a = cc in
        let z = root_grafted m h r s ks t a qs g w s′ l t₂ e (subst (λ k. IsTerm s′ k t₂) j (subst (λ c. IsTerm c ks₂ t₂) i is)) in
        subst (λ c. Work (laid_over m c s′ l) (also r s₂ ks₂ t₂ h) (kp ∷ qs) g) (sym y.place)
        (subst (λ k. Work (laid_over m r s′ l) (also r s₂ ks₂ t₂ h) (k ∷ qs) g) (sym y.under)
        (subst (λ k. Work (laid_over m r s′ l) (also r s₂ k t₂ h) (ks ∷ qs) g) (sym j)
        (subst (λ c. Work (laid_over m r s′ l) (also r c a t₂ h) (ks ∷ qs) g) (sym i) z)))

    below : Sub p sp kp ks → Work (laid_over m p s′ l) (also r s₂ ks₂ t₂ h) (kp ∷ qs) g
    below y =
        let o = w.once p in
        let n = sub_occ y in
        let u = v ∙ graft-there p s′ a r s ks none (omega arith) in
        let i : s₂ ≡ s = cc in
        let j : ks₂ ≡ graft p s′ a ks = cc in
        let z = under_grafted m h r s ks t a qs g w p sp kp s′ l t₂ y e (subst (λ k. IsTerm s k t₂) j (subst (λ c. IsTerm c ks₂ t₂) i is)) in
        subst (λ k. Work (laid_over m p s′ l) (also r s₂ k t₂ h) (kp ∷ qs) g) (sym j)
        (subst (λ c. Work (laid_over m p s′ l) (also r c (graft p s′ a ks) t₂ h) (kp ∷ qs) g) (sym i) z)
