-- What stands at the places of rows and of held terms.
use Rattle.std.proofs.Common.{◌≡◌, ◌≢◌, ℕ, zero, suc, ◌+◌, ◌<◌, ◌≤◌, ◌==◌, cond, List, get_or, Some, None, Option, sym, refl, ap, ◌∙◌, subst, ⊎_elim, inl, inr, ◌⊎◌, Bool, true, false, arith}
use Rattle.std.proofs.lemmas.Bool.{cases_lt, eqb-true}
use Rattle.terms.specs.declared.node.Node.{Node}
use Rattle.terms.specs.declared.symbol.Symbol.{Symbol}
use Rattle.terms.specs.Term.{Term, variable, instrument, apply, Terms, nil, cons, how_many, symbols, symbols_in}
use Rattle.terms.specs.View.{Stands, StandFrom}
use Rattle.terms.specs.Nodes.{vacant, along, node_answers}
use Rattle.terms.proofs.Nodes.{argument_within, argument_past}
use Rattle.node_store.specs.Placed.{Placed, none, at, link, Holds, hit, occ, size, IsTerm, AreTerms}
use Rattle.node_store.proofs.Placing.{hit_self}

-- one sibling further
along_suc : (ns : List Node) (l : Option ℕ) (k q : ℕ) → along ns l k ≡ Some q → along ns l (suc k) ≡ (get_or ns q vacant).next
along_suc ns None zero q e = cc
along_suc ns (Some p) zero q e = let h : p ≡ q = cc in ap (λ n. (get_or ns n vacant).next) h
along_suc ns None (suc k) q e = cc
along_suc ns (Some p) (suc k) q e = along_suc ns (get_or ns p vacant).next k q e

-- a symbol over a row that is held
mutual
  pub term_stands : (ns : List Node) (i : ℕ) (s : Option Symbol) (ks : Placed) (n : Option ℕ) (t : Term) → get_or ns i vacant ≡ record { symbol = s; first = link ks; next = n } → Holds ns ks → IsTerm s ks t → Stands (node_answers ns) i t
  term_stands ns i s ks n (variable x) e h (is, bare) = (ap (λ (x : Node). x.symbol) e ∙ is, ap (λ (x : Node). x.first) e ∙ ap link bare)
  term_stands ns i s ks n (instrument x) e h (is, bare) = (ap (λ (x : Node). x.symbol) e ∙ is, ap (λ (x : Node). x.first) e ∙ ap link bare)
  term_stands ns i s ks n (apply f ts) e h (is, few, are) = (ap (λ (x : Node). x.symbol) e ∙ is, row_stands ns i 0 ks ts (ap (λ (x : Node). x.first) e) (omega (arith, few)) h are)

  row_stands : (ns : List Node) (p k : ℕ) (q : Placed) (ts : Terms) → along ns (get_or ns p vacant).first k ≡ link q → k + how_many ts ≤ 3 → Holds ns q → AreTerms q ts → StandFrom (node_answers ns) p k ts
  row_stands ns p k none nil e few h a = ⊎_elim (λ (m : k < 3). argument_within ns p k m ∙ e) (λ (m : 3 ≤ k). argument_past ns p k m) (cases_lt k 3)
  row_stands ns p k none (cons t ts) e few h a = absurd a
  row_stands ns p k (at i s ks us) nil e few h a = absurd a
  row_stands ns p k (at i s ks us) (cons t ts) e few h a = (
    i,
    argument_within ns p k (omega arith) ∙ e,
    term_stands ns i s ks (link us) t h.1 h.2 a.0,
    row_stands ns p (suc k) us ts (along_suc ns (get_or ns p vacant).first k i e ∙ ap (λ (x : Node). x.next) h.1) (omega arith) h.3 a.1,
  )

-- as many nodes as symbols
mutual
  pub term_size : (s : Option Symbol) (ks : Placed) (t : Term) → IsTerm s ks t → symbols t ≡ 1 + size ks
  term_size s ks (variable x) (is, bare) = let z = ap size bare in omega arith
  term_size s ks (instrument x) (is, bare) = let z = ap size bare in omega arith
  term_size s ks (apply f ts) (is, few, are) = let x = row_size ks ts are in omega arith

  pub row_size : (q : Placed) (ts : Terms) → AreTerms q ts → symbols_in ts ≡ size q
  row_size none nil a = refl
  row_size none (cons t ts) a = absurd a
  row_size (at i s ks us) nil a = absurd a
  row_size (at i s ks us) (cons t ts) a = let x = term_size s ks t a.0 in let y = row_size us ts a.1 in omega arith

-- a node of a row is not its own next sibling
pub link_occ : (i : ℕ) (us : Placed) → link us ≡ Some i → 1 ≤ occ i us
link_occ i none e = let z : ◌≡◌ {A = ℕ} 0 1 = cc in absurd (omega arith)
link_occ i (at j s ks us) e = let z : j ≡ i = cc in subst (λ k. 1 ≤ occ k (at j s ks us)) z (let o = hit_self j in omega arith)

pub hit_cases : (j i : ℕ) → (j ≡ i) ⊎ (hit j i ≡ 0)
hit_cases j i = go (j == i) refl
  where
    go : (b : Bool) → (j == i) ≡ b → (j ≡ i) ⊎ (hit j i ≡ 0)
    go true e = inl (eqb-true j i e)
    go false e = inr (ap (λ c. cond c 1 0) e)

pub not_own_next : (ns : List Node) (q : Placed) (j : ℕ) → Holds ns q → ((k : ℕ) → occ k q ≤ 1) → 1 ≤ occ j q → (get_or ns j vacant).next ≢ Some j
not_own_next ns none j h once o = absurd (let z : ⊥ = omega (arith, o) in z)
not_own_next ns (at i s ks us) j h once o = ⊎_elim here
    (λ z. ⊎_elim
    (λ (m : 0 < occ j ks). not_own_next ns ks j h.2 (λ k. let x = once k in omega arith) (omega arith))
    (λ (m : occ j ks ≤ 0). not_own_next ns us j h.3 (λ k. let x = once k in omega arith) (omega arith))
    (cases_lt 0 (occ j ks)))
    (hit_cases j i)
  where
    here : j ≡ i → (get_or ns j vacant).next ≢ Some j
    here e n =
        let x = once i in
        let y = hit_self i in
        let z = link_occ i us (sym (ap (λ (x : Node). x.next) h.1) ∙ subst (λ k. (get_or ns k vacant).next ≡ Some k) e n) in
        omega arith
