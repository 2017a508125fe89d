-- Rows of nodes: what a write leaves as it was.
use Rattle.std.proofs.Common.{◌≡◌, ◌≢◌, ℕ, ◌≤◌, List, [], ◌∷◌, length, get_or, set, refl, ap, ◌∙◌, subst, arith}
use Rattle.std.proofs.lemmas.Bool.{eq-eqb}
use Rattle.std.proofs.lemmas.List.{get_or-set_other, length-set}
use Rattle.terms.specs.declared.node.Node.{Node}
use Rattle.terms.specs.Nodes.{vacant}
use Rattle.node_store.specs.Placed.{Placed, none, at, Holds, hit, occ, Held, no_term, also, AllHeld, occs}
use Rattle.node_store.specs.Work.{HoldAll, occ_all}

pub hit_self : (i : ℕ) → hit i i ≡ 1
hit_self i = rw (eq-eqb i i refl) refl

-- a place that is no hit is another
pub no_hit : (j i : ℕ) → hit j i ≡ 0 → j ≢ i
no_hit j i h e = let k : hit j i ≡ 1 = subst (λ z. hit j z ≡ 1) e (hit_self j) in omega arith

-- a row is held where its own nodes are as before
pub keep : (ns ms : List Node) → length ms ≡ length ns → (q : Placed) → ((j : ℕ) → 1 ≤ occ j q → get_or ms j vacant ≡ get_or ns j vacant) → Holds ns q → Holds ms q
keep ns ms e none h k = tt
keep ns ms e (at i s ks us) h k =
    let o = hit_self i in
    (omega (arith, k.0), h i (omega arith) ∙ k.1, keep ns ms e ks (λ j u. h j (omega arith)) k.2, keep ns ms e us (λ j u. h j (omega arith)) k.3)

-- so are held terms
pub keep_all : (ns ms : List Node) → length ms ≡ length ns → (h : Held) → ((j : ℕ) → 1 ≤ occs j h → get_or ms j vacant ≡ get_or ns j vacant) → AllHeld ns h → AllHeld ms h
keep_all ns ms e no_term h k = tt
keep_all ns ms e (also i s ks t r) h k =
    let o = hit_self i in
    (omega (arith, k.0), h i (omega arith) ∙ k.1, keep ns ms e ks (λ j u. h j (omega arith)) k.2, k.3, keep_all ns ms e r (λ j u. h j (omega arith)) k.4)

-- one write outside
pub keep_set : (ns : List Node) (i : ℕ) (x : Node) (q : Placed) → occ i q ≡ 0 → Holds ns q → Holds (set ns i x) q
keep_set ns i x q o h =
    keep ns (set ns i x) (length-set ns i x) q (λ j u. get_or-set_other ns i j x vacant (λ e. let z : occ j q ≡ occ i q = ap (λ w. occ w q) e in omega arith)) h

pub keep_all_set : (ns : List Node) (i : ℕ) (x : Node) (q : Held) → occs i q ≡ 0 → AllHeld ns q → AllHeld (set ns i x) q
keep_all_set ns i x q o h =
    keep_all ns (set ns i x) (length-set ns i x) q (λ j u. get_or-set_other ns i j x vacant (λ e. let z : occs j q ≡ occs i q = ap (λ w. occs w q) e in omega arith)) h

pub keep_rows_set : (ns : List Node) (i : ℕ) (x : Node) (qs : List Placed) → occ_all i qs ≡ 0 → HoldAll ns qs → HoldAll (set ns i x) qs
keep_rows_set ns i x [] o h = tt
keep_rows_set ns i x (q ∷ qs) o h = (keep_set ns i x q (omega arith) h.0, keep_rows_set ns i x qs (omega arith) h.1)
