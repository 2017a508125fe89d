-- The held terms, and what the nodes say of them.
use Rattle.std.proofs.Common.{◌≡◌, ◌≢◌, ℕ, ◌+◌, ◌*◌, ◌<◌, ◌≤◌, ◌==◌, nat_le, Bool, true, false, cond, List, length, get_or, set, Some, None, Option, sym, refl, ap, ◌∙◌, subst, ⊎_elim, arith}
use Rattle.std.proofs.lemmas.Bool.{cases_lt, le-leb, eq-eqb, leb-true}
use Rattle.std.proofs.lemmas.List.{get_or-set_other}
use Rattle.terms.specs.declared.node.Node.{Node}
use Rattle.terms.specs.declared.symbol.Symbol.{Symbol}
use Rattle.std.proofs.Math.Decide.{ℕ_discrete}
use Rattle.terms.specs.Term.{Term, symbols, term_discrete}
use Rattle.terms.specs.Nodes.{vacant, node_answers}
use Rattle.terms.specs.Off.{read_off}
use Rattle.terms.proofs.Offs.{off_stands}
use Rattle.rewriting.proofs.Props.{discrete_set}
use Rattle.traversal.specs.Walks.{most_symbols}
use Rattle.node_store.specs.Memory.{Memory}
use Rattle.node_store.specs.Placed.{Placed, link, Holds, hit, occ, size, IsTerm, Held, no_term, also, AllHeld, occs, sizes, term_at}
use Rattle.node_store.specs.Sound.{Sound, unused, leads, held_at}
use Rattle.node_store.proofs.Standing.{term_stands, term_size, hit_cases, not_own_next}

-- a held term, and the others
pub record Out (ns : List Node) (h : Held) (p : ℕ) (t : Term) : Type 0 where
  pub symbol : Option Symbol
  pub under : Placed
  pub others : Held
  pub within : p < length ns
  pub node : get_or ns p vacant ≡ record { symbol = symbol; first = link under; next = Some p }
  pub row : Holds ns under
  pub is : IsTerm symbol under t
  pub terms : AllHeld ns others
  pub places : (j : ℕ) → occs j h ≡ hit j p + (occ j under + occs j others)
  pub count : sizes h ≡ 1 + (size under + sizes others)
  pub same : (q : ℕ) → hit q p ≡ 0 → term_at h q ≡ term_at others q

pub hit_yes : (q i : ℕ) → q ≡ i → (q == i) ≡ true
hit_yes q i e = eq-eqb q i e

pub hit_none : (q i : ℕ) → hit q i ≡ 0 → (q == i) ≡ false
hit_none q i e = go (q == i) refl
  where
    go : (b : Bool) → (q == i) ≡ b → (q == i) ≡ false
    go true h = let z : hit q i ≡ 1 = ap (λ c. cond c 1 0) h in absurd (let y : ⊥ = omega arith in y)
    go false h = h

pub out : (ns : List Node) (h : Held) (p : ℕ) (t : Term) → term_at h p ≡ Some t → AllHeld ns h → Out ns h p t
out ns no_term p t e a = let z : ◌≡◌ {A = ℕ} 0 1 = cc in absurd (let y : ⊥ = omega arith in y)
out ns (also i s ks u h) p t e a = ⊎_elim here (λ z. there z (out ns h p t (sym (ap (λ c. cond c (Some u) (term_at h p)) (hit_none p i z)) ∙ e) a.4)) (hit_cases p i)
  where
    here : p ≡ i → Out ns (also i s ks u h) p t
    here z =
        let w : Some u ≡ Some t = sym (ap (λ c. cond c (Some u) (term_at h p)) (hit_yes p i z)) ∙ e in
        let v : u ≡ t = cc in
        subst (λ k. Out ns (also i s ks u h) k t) (sym z) (record {
          symbol = s;
          under = ks;
          others = h;
          within = a.0;
          node = a.1;
          row = a.2;
          is = subst (IsTerm s ks) v a.3;
          terms = a.4;
          places = λ j. refl;
          count = refl;
          same = λ q o. ap (λ c. cond c (Some u) (term_at h q)) (hit_none q i o);
        })

    there : hit p i ≡ 0 → Out ns h p t → Out ns (also i s ks u h) p t
    there z w =
        record {
          symbol = w.symbol;
          under = w.under;
          others = also i s ks u w.others;
          within = w.within;
          node = w.node;
          row = w.row;
          is = w.is;
          terms = (a.0, a.1, a.2, a.3, w.terms);
          places = λ j. let x = w.places j in omega arith;
          count = let x = w.count in omega arith;
          same = λ q o. ap (λ x. cond (q == i) (Some u) x) (w.same q o);
        }

-- where no term is held no node is its own next sibling
not_root : (ns : List Node) (h : Held) (q : ℕ) → term_at h q ≡ None → AllHeld ns h → ((k : ℕ) → occs k h ≤ 1) → 1 ≤ occs q h → (get_or ns q vacant).next ≢ Some q
not_root ns no_term q e a once o = absurd (let z : ⊥ = omega (arith, o) in z)
not_root ns (also i s ks u h) q e a once o = ⊎_elim here
    (λ z. ⊎_elim
    (λ (m : 0 < occ q ks). not_own_next ns ks q a.2 (λ k. let x = once k in omega arith) (omega arith))
    (λ (m : occ q ks ≤ 0). not_root ns h q (sym (ap (λ c. cond c (Some u) (term_at h q)) (hit_none q i z)) ∙ e) a.4 (λ k. let x = once k in omega arith) (omega arith))
    (cases_lt 0 (occ q ks)))
    (hit_cases q i)
  where
    here : q ≡ i → (get_or ns q vacant).next ≢ Some q
    here z =
        let w : Some u ≡ None = sym (ap (λ c. cond c (Some u) (term_at h q)) (hit_yes q i z)) ∙ e in
        let v : ◌≡◌ {A = ℕ} 0 1 = cc in
        absurd (let y : ⊥ = omega arith in y)

pub unused_none : (f j : ℕ) → j < f → unused f j ≡ 0
unused_none f j h = go (nat_le f j) refl
  where
    go : (b : Bool) → nat_le f j ≡ b → unused f j ≡ 0
    go true e = absurd (let y : ⊥ = omega (arith, leb-true f j e) in y)
    go false e = ap (λ c. cond c 1 0) e

pub unused_some : (f j : ℕ) → f ≤ j → unused f j ≡ 1
unused_some f j h = ap (λ c. cond c 1 0) (le-leb f j h)

-- a write elsewhere than at a place that was never in use leaves those vacant
pub blank_set : (ns : List Node) (f i : ℕ) (x : Node) → unused f i ≡ 0 → ((j : ℕ) → f ≤ j → get_or ns j vacant ≡ vacant) → (j : ℕ) → f ≤ j → get_or (set ns i x) j vacant ≡ vacant
blank_set ns f i x o b j h = get_or-set_other ns i j x vacant (λ e. let z : unused f i ≡ 1 = unused_some f i (subst (λ k. f ≤ k) e h) in let w : ⊥ = omega arith in w) ∙ b j h

pub leads_not : (o : Option ℕ) (p : ℕ) → o ≢ Some p → leads o p ≡ false
leads_not None p n = refl
leads_not (Some q) p n = hit_none q p (⊎_elim (λ (e : q ≡ p). absurd (n (ap Some e))) (λ (z : hit q p ≡ 0). z) (hit_cases q p))

-- what the nodes say is what is held
pub held_is : (m : Memory) (s : Sound m) (q : ℕ) → held_at m.nodes q ≡ term_at s.held q
held_is m s q = go (term_at s.held q) refl
  where
    free_next : term_at s.held q ≡ None → (get_or m.nodes q vacant).next ≢ Some q
    free_next e = ⊎_elim
        (λ (x : 0 < occs q s.held). not_root m.nodes s.held q e s.terms (λ k. let y = s.once k in omega arith) (omega arith))
        (λ (x : occs q s.held ≤ 0). ⊎_elim
        (λ (y : 0 < occ q s.gone). not_own_next m.nodes s.gone q s.row (λ k. let z = s.once k in omega arith) (omega arith))
        (λ (y : occ q s.gone ≤ 0). ⊎_elim
        (λ (z : q < m.fresh). absurd (let w : ⊥ = omega (arith, s.once q, unused_none m.fresh q z) in w))
        (λ (z : m.fresh ≤ q) (n : (get_or m.nodes q vacant).next ≡ Some q). let b : (get_or m.nodes q vacant).next ≡ None = ap (λ (x : Node). x.next) (s.blank q z) in let v : ◌≡◌ {A = ℕ} 0 1 = cc in (let w : ⊥ = omega arith in w))
        (cases_lt q m.fresh))
        (cases_lt 0 (occ q s.gone)))
        (cases_lt 0 (occs q s.held))

    go : (o : Option Term) → term_at s.held q ≡ o → held_at m.nodes q ≡ o
    go None e = ap (λ c. cond c (Some (read_off (2 * most_symbols) (node_answers m.nodes) q)) None) (leads_not (get_or m.nodes q vacant).next q (free_next e))
    go (Some t) e =
        let w = out m.nodes s.held q t e s.terms in
        let l : leads (get_or m.nodes q vacant).next q ≡ true = ap (λ (n : Node). leads n.next q) w.node ∙ hit_yes q q refl in
        let few : symbols t ≤ most_symbols = omega (arith, term_size w.symbol w.under t w.is, w.count, s.whole, s.few) in
        ap (λ c. cond c (Some (read_off (2 * most_symbols) (node_answers m.nodes) q)) None) l
        ∙ ap Some (off_stands (node_answers m.nodes) q t (2 * most_symbols) (term_stands m.nodes q w.symbol w.under (Some q) t w.node w.row w.is) (omega arith))

option_discrete : {A : Type 0} → Discrete A → Discrete (Option A)
option_discrete d None None = yes refl
option_discrete d None (Some y) = no (λ e. let z : ◌≡◌ {A = ℕ} 0 1 = cc in let w : ⊥ = omega arith in w)
option_discrete d (Some x) None = no (λ e. let z : ◌≡◌ {A = ℕ} 0 1 = cc in let w : ⊥ = omega arith in w)
option_discrete d (Some x) (Some y) = go (d x y)
  where
    go : Dec (x ≡ y) → Dec (Some x ≡ Some y)
    go (yes e) = yes (ap Some e)
    go (no n) = no (λ e. n (cc))

pub held_set : IsSet (Option Term)
held_set = discrete_set (option_discrete (term_discrete ℕ_discrete))
