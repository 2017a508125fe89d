-- Each place is in one of the rows, so their sizes add up to the number of nodes.
use Rattle.std.proofs.Common.{◌≡◌, ℕ, zero, suc, ◌+◌, ◌-◌, ◌<◌, ◌≤◌, List, [], ◌∷◌, length, refl, subst, ⊎_elim, arith}
use Rattle.std.proofs.lemmas.Bool.{cases_lt}
use Rattle.terms.specs.declared.node.Node.{Node}
use Rattle.node_store.specs.Memory.{Memory}
use Rattle.node_store.specs.Placed.{Placed, none, at, Holds, hit, occ, size, Held, no_term, also, AllHeld, occs, sizes}
use Rattle.node_store.specs.Sound.{unused}
use Rattle.node_store.specs.Work.{Work, HoldAll, occ_all, size_all}
use Rattle.node_store.proofs.Placing.{hit_self}
use Rattle.node_store.proofs.Standing.{hit_cases}
use Rattle.node_store.proofs.Helds.{unused_none, unused_some}

-- the sum over all numbers below n
abbrev sum_below : (ℕ → ℕ) → ℕ → ℕ
sum_below f zero = 0
sum_below f (suc n) = f n + sum_below f n

sum_below-same : (f g : ℕ → ℕ) → ((j : ℕ) → f j ≡ g j) → (n : ℕ) → sum_below f n ≡ sum_below g n
sum_below-same f g e zero = refl
sum_below-same f g e (suc n) = let x = e n in let y = sum_below-same f g e n in omega arith

sum_below-add : (f g : ℕ → ℕ) (n : ℕ) → sum_below (λ j. f j + g j) n ≡ sum_below f n + sum_below g n
sum_below-add f g zero = refl
sum_below-add f g (suc n) = let y = sum_below-add f g n in omega arith

sum_below-one : (n : ℕ) → sum_below (λ j. 1) n ≡ n
sum_below-one zero = refl
sum_below-one (suc n) = let y = sum_below-one n in omega arith

sum_below-none : (n : ℕ) → sum_below (λ j. 0) n ≡ 0
sum_below-none zero = refl
sum_below-none (suc n) = let y = sum_below-none n in omega arith

hit_past : (i n : ℕ) → n ≤ i → sum_below (λ j. hit j i) n ≡ 0
hit_past i zero h = refl
hit_past i (suc n) h =
    let y = hit_past i n (omega arith) in
    ⊎_elim (λ (e : n ≡ i). let z : ⊥ = omega arith in absurd z) (λ (e : hit n i ≡ 0). let z : sum_below (λ j. hit j i) (suc n) ≡ 0 = omega arith in z) (hit_cases n i)

hit_below : (i n : ℕ) → i < n → sum_below (λ j. hit j i) n ≡ 1
hit_below i zero h = let z : ⊥ = omega arith in absurd z
hit_below i (suc n) h = ⊎_elim
    (λ (e : n ≡ i). let x : hit n i ≡ 1 = subst (λ k. hit n k ≡ 1) e (hit_self n) in let y = hit_past i n (omega arith) in let z : sum_below (λ j. hit j i) (suc n) ≡ 1 = omega arith in z)
    (λ (e : hit n i ≡ 0). let y = hit_below i n (⊎_elim (λ (z : i < n). z) (λ (z : n ≤ i). let u : n ≡ i = omega arith in let x : hit n i ≡ 1 = subst (λ k. hit n k ≡ 1) u (hit_self n) in let v : ⊥ = omega arith in absurd v) (cases_lt i n)) in let z : sum_below (λ j. hit j i) (suc n) ≡ 1 = omega arith in z)
    (hit_cases n i)

unused_below : (f n : ℕ) → sum_below (unused f) n ≡ n - f
unused_below f zero = omega arith
unused_below f (suc n) =
    let y = unused_below f n in
    ⊎_elim (λ (h : n < f). let u = unused_none f n h in let z : sum_below (unused f) (suc n) ≡ suc n - f = omega arith in z) (λ (h : f ≤ n). let u = unused_some f n h in let z : sum_below (unused f) (suc n) ≡ suc n - f = omega arith in z) (cases_lt n f)

occ_below : (ns : List Node) (q : Placed) → Holds ns q → sum_below (λ j. occ j q) (length ns) ≡ size q
occ_below ns none h = sum_below-none (length ns)
occ_below ns (at i s ks us) h =
    let a = hit_below i (length ns) h.0 in
    let b = occ_below ns ks h.2 in
    let c = occ_below ns us h.3 in
    let d = sum_below-add (λ j. hit j i) (λ j. occ j ks + occ j us) (length ns) in
    let e = sum_below-add (λ j. occ j ks) (λ j. occ j us) (length ns) in
    omega arith

occs_below : (ns : List Node) (h : Held) → AllHeld ns h → sum_below (λ j. occs j h) (length ns) ≡ sizes h
occs_below ns no_term h = sum_below-none (length ns)
occs_below ns (also i s ks t r) h =
    let a = hit_below i (length ns) h.0 in
    let b = occ_below ns ks h.2 in
    let c = occs_below ns r h.4 in
    let d = sum_below-add (λ j. hit j i) (λ j. occ j ks + occs j r) (length ns) in
    let e = sum_below-add (λ j. occ j ks) (λ j. occs j r) (length ns) in
    omega arith

all_below : (ns : List Node) (qs : List Placed) → HoldAll ns qs → sum_below (λ j. occ_all j qs) (length ns) ≡ size_all qs
all_below ns [] h = sum_below-none (length ns)
all_below ns (q ∷ qs) h =
    let a = occ_below ns q h.0 in
    let b = all_below ns qs h.1 in
    let c = sum_below-add (λ j. occ j q) (λ j. occ_all j qs) (length ns) in
    omega arith

-- the nodes of held terms and rows, and the free ones, are all there are
pub all_nodes : (m : Memory) (h : Held) (qs : List Placed) (g : Placed) → Work m h qs g → sizes h + size_all qs + m.free ≡ length m.nodes
all_nodes m h qs g w =
    let n = length m.nodes in
    let a = sum_below-same (λ j. occs j h + (occ_all j qs + (occ j g + unused m.fresh j))) (λ j. 1) w.once n in
    let b = sum_below-one n in
    let c = sum_below-add (λ j. occs j h) (λ j. occ_all j qs + (occ j g + unused m.fresh j)) n in
    let d = sum_below-add (λ j. occ_all j qs) (λ j. occ j g + unused m.fresh j) n in
    let e = sum_below-add (λ j. occ j g) (unused m.fresh) n in
    let x = occs_below m.nodes h w.terms in
    let y = all_below m.nodes qs w.rows in
    let z = occ_below m.nodes g w.row in
    let u = unused_below m.fresh n in
    omega (arith, w.count)
