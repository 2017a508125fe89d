-- The nodes that a step needs.
use Rattle.std.proofs.Common.{◌≡◌, ◌≢◌, ℕ, zero, suc, ◌+◌, ◌≤◌, ◌==◌, cond, Bool, true, false, ◌||◌, List, [], ◌∷◌, ◌++◌, append_assoc, length, map, get_or, Option, refl, sym, ap, ◌∙◌, subst, ⊎_elim, eq-eqb, arith}
use Rattle.std.proofs.lemmas.Bool.{false≢true}
use Rattle.std.proofs.lemmas.Bool.Decides.{eqb_tells}
use Rattle.std.proofs.lemmas.List.{length-append}
use Rattle.std.proofs.Math.Seq.{get_or-append_seam}
use Rattle.terms.specs.declared.node.Node.{Node}
use Rattle.terms.specs.declared.symbol.Symbol.{Symbol}
use Rattle.terms.specs.Nodes.{vacant}
use Rattle.terms.specs.Term.{Term, variable, instrument, apply}
use Rattle.rewriting.specs.Bindings.{Bindings}
use Rattle.traversal.specs.Walks.{most_symbols}
use Rattle.node_store.specs.Placed.{Placed, none, at, link, Holds, size}
use Rattle.node_store.specs.Grafting.{Sub, here, under, later}
use Rattle.node_store.specs.Work.{size_all}
use Rattle.node_store.proofs.Grafts.{sub_holds, sub_node}
use Rattle.compiled.specs.Symbols.{has_variable, is_variable, home}
use Rattle.compiled.specs.declared.Source.TheVariants.{Moved, Copied}
use Rattle.compiled.specs.Plans.{dropped_from, copy_before}
use Rattle.matching.specs.Peeling.{size_at}
use Rattle.matching.specs.Sizing.{Sized, AllSized}
use Rattle.matching.proofs.Peelings.{Beside, nothing, bound_part, leaf_part, node_part}
use Rattle.matching.proofs.Sums.{sum_at}
use Rattle.matching.proofs.Copies.{copies}

-- one row begins at a place
holds_one : (ns : List Node) (q r : Placed) → Holds ns q → Holds ns r → link q ≡ link r → q ≡ r
holds_one ns none none h k e = refl
holds_one ns none (at i s ks us) h k e = absurd (false≢true cc)
holds_one ns (at i s ks us) none h k e = absurd (false≢true cc)
holds_one ns (at i s ks us) (at j t js vs) h k e =
    let z : i ≡ j = cc in
    let n : record { symbol = s; first = link ks; next = link us } ≡ record { symbol = t; first = link js; next = link vs } = sym h.1 ∙ ap (λ n. get_or ns n vacant) z ∙ k.1 in
    let a = holds_one ns ks js h.2 k.2 (ap (λ (x : Node). x.first) n) in
    let b = holds_one ns us vs h.3 k.3 (ap (λ (x : Node). x.next) n) in
    λ d. at (z d) (n d).symbol (a d) (b d)

sub_size : {p : ℕ} {s : Option Symbol} {ks q : Placed} → Sub p s ks q → suc (size ks) ≤ size q
sub_size here = omega arith
sub_size (under x) = let h = sub_size x in omega arith
sub_size (later x) = let h = sub_size x in omega arith

-- each row is one of a node that stands in a row
abbrev pub Standing : Placed → List Placed → Type 0
Standing w [] = Unit {0}
Standing w (none ∷ qs) = ⊥
Standing w (at i s ks us ∷ qs) = Sub i s ks w × (us ≡ none) × Standing w qs

pub standing : {w : Placed} {ts : List Term} {ps : List ℕ} {kept : List Placed} {m : Bindings} → Beside w ts ps kept m → Standing w kept
standing nothing = tt
standing (bound_part x a r) = (x, refl, standing r)
standing (leaf_part r) = standing r
standing (node_part r) = standing r

module _ (ns : List Node) (w : Placed) (held : Holds ns w) where
  -- the size found at the place of a row
  pub found_size : (earlier behind : List Placed) (p : ℕ) (s : Option Symbol) (ks : Placed) → Standing w (earlier ++ at p s ks none ∷ behind) → size_at (earlier ++ at p s ks none ∷ behind) p ≡ suc (size ks)
  found_size [] behind p s ks x = ap (λ b. cond b (suc (size ks + 0)) (size_at behind p)) (eq-eqb p p refl) ∙ omega arith
  found_size (none ∷ earlier) behind p s ks x = absurd x
  found_size (at i t js us ∷ earlier) behind p s ks x = ⊎_elim
      (λ (h : ((p == i) ≡ true) × (p ≡ i)).
      let a = sub_node ns x.0 held in
      let b = sub_node ns y held in
      let l : link js ≡ link ks = sym (ap (λ (z : Node). z.first) a.1) ∙ ap (λ n. (get_or ns n vacant).first) (sym h.1) ∙ ap (λ (z : Node). z.first) b.1 in
      let same = ap size (holds_one ns js ks (sub_holds ns x.0 held) (sub_holds ns y held) l) in
      let empty = ap size x.1 in
      ap (λ b. cond b (suc (size js + size us)) (size_at (earlier ++ at p s ks none ∷ behind) p)) h.0 ∙ omega arith)
      (λ (h : ((p == i) ≡ false) × (p ≢ i)). ap (λ b. cond b (suc (size js + size us)) (size_at (earlier ++ at p s ks none ∷ behind) p)) h.0 ∙ found_size earlier behind p s ks x.2)
      (eqb_tells p i)
    where
      last : (earlier : List Placed) → Standing w (earlier ++ at p s ks none ∷ behind) → Sub p s ks w
      last [] x = x.0
      last (none ∷ earlier) x = absurd x
      last (at i t js us ∷ earlier) x = last earlier x.2

      y : Sub p s ks w
      y = last earlier x.2

-- a fact at each number, counted from k, at which a variable stands
abbrev pub AtVariables : (ℕ → Type 0) → ℕ → List Term → Type 0
AtVariables Q k [] = Unit {0}
AtVariables Q k (variable x ∷ ts) = Q k × AtVariables Q (suc k) ts
AtVariables Q k (instrument n ∷ ts) = AtVariables Q (suc k) ts
AtVariables Q k (apply f us ∷ ts) = AtVariables Q (suc k) ts

pub at_home : (Q : ℕ → Type 0) (k : ℕ) (ts : List Term) (x : ℕ) → AtVariables Q k ts → has_variable x ts ≡ true → Q (k + home x ts)
at_home Q k [] x a h = absurd (false≢true h)
at_home Q k (variable y ∷ ts) x a h = go (x == y) h (at_home Q (suc k) ts x a.1)
  where
    go : (b : Bool) → (b || has_variable x ts) ≡ true → (has_variable x ts ≡ true → Q (suc k + home x ts)) → Q (k + cond b zero (suc (home x ts)))
    go true h r = subst Q (let z : k ≡ k + 0 = omega arith in z) a.0
    go false h r = subst Q (let z : suc k + home x ts ≡ k + suc (home x ts) = omega arith in z) (r h)
at_home Q k (instrument n ∷ ts) x a h = subst Q (let z : suc k + home x ts ≡ k + suc (home x ts) = omega arith in z) (at_home Q (suc k) ts x a h)
at_home Q k (apply f us ∷ ts) x a h = subst Q (let z : suc k + home x ts ≡ k + suc (home x ts) = omega arith in z) (at_home Q (suc k) ts x a h)

-- the size of the row at the place of a number
abbrev pub size_of : List Placed → List ℕ → ℕ → ℕ
size_of all places k = size_at all (get_or places k 0)

-- the term whose root is there has that size
abbrev pub OfSize : List Node → List Placed → List ℕ → ℕ → Type 0
OfSize ns all places k = Sized ns (get_or places k 0) (size_of all places k)

module _ (ns : List Node) (w : Placed) (held : Holds ns w) (few : size w ≤ most_symbols) (all : List Placed) (stand : Standing w all) (places : List ℕ) where
  sized : (xs kept : List Placed) (p : ℕ) (s : Option Symbol) (ks : Placed) → Sub p s ks w → all ≡ xs ++ at p s ks none ∷ kept → Sized ns p (size_at all p)
  sized xs kept p s ks x e = (
    ks,
    sub_holds ns x held,
    sym (ap (λ (z : Node). z.first) (sub_node ns x held).1),
    (let h = sub_size x in omega arith),
    ap (λ l. size_at l p) e ∙ found_size ns w held xs kept p s ks (subst (Standing w) e stand),
  )

  -- the rows at the numbers of variables, and their sizes together
  pub numbered : {ts : List Term} {ps : List ℕ} {kept : List Placed} {m : Bindings} → Beside w ts ps kept m → (k : ℕ) (pre : List ℕ) (xs : List Placed) → k ≡ length pre → places ≡ pre ++ ps → all ≡ xs ++ kept → AtVariables (OfSize ns all places) k ts × (size_all kept ≡ sum_at (size_of all places) (λ x. true) k ts)
  numbered nothing k pre xs n e f = (tt, refl)
  numbered (leaf_part {q = q} {ps = ps} r) k pre xs n e f = numbered r (suc k) (pre ++ q ∷ []) xs (omega (arith, length-append pre (q ∷ []))) (e ∙ sym (append_assoc pre (q ∷ []) ps)) f
  numbered (node_part {q = q} {ps = ps} r) k pre xs n e f = numbered r (suc k) (pre ++ q ∷ []) xs (omega (arith, length-append pre (q ∷ []))) (e ∙ sym (append_assoc pre (q ∷ []) ps)) f
  numbered (bound_part {q = q} {s = s} {ks = ks} {ts = ts} {ps = ps} {kept = kept} x a r) k pre xs n e f =
      let z = numbered r (suc k) (pre ++ q ∷ []) (xs ++ at q s ks none ∷ []) (omega (arith, length-append pre (q ∷ []))) (e ∙ sym (append_assoc pre (q ∷ []) ps)) (f ∙ sym (append_assoc xs (at q s ks none ∷ []) kept)) in
      let p : get_or places k 0 ≡ q = (λ d. get_or (e d) (n d) 0) ∙ get_or-append_seam pre q ps 0 in
      let y = sized xs kept q s ks x f in
      let one = found_size ns w held xs kept q s ks (subst (Standing w) f stand) in
      let g : size_of all places k ≡ suc (size ks) = ap (size_at all) p ∙ ap (λ l. size_at l q) f ∙ one in
      let sum = z.1 in
      ((subst (λ i. Sized ns i (size_at all i)) (sym p) y, z.0), omega arith)

  pub sized_dropped : (k : ℕ) (ts right : List Term) → AtVariables (OfSize ns all places) k ts → AllSized ns places (dropped_from k ts right) (map (size_of all places) (dropped_from k ts right))
  sized_dropped k [] right a = tt
  sized_dropped k (variable x ∷ ts) right a = go (has_variable x right) (sized_dropped (suc k) ts right a.1)
    where
      rest : List ℕ
      rest = dropped_from (suc k) ts right

      go : (b : Bool) → AllSized ns places rest (map (size_of all places) rest) → AllSized ns places (cond b rest (k ∷ rest)) (map (size_of all places) (cond b rest (k ∷ rest)))
      go true h = h
      go false h = (a.0, h)
  sized_dropped k (instrument n ∷ ts) right a = sized_dropped (suc k) ts right a
  sized_dropped k (apply f us ∷ ts) right a = sized_dropped (suc k) ts right a

  pub sized_copies : (left before ts : List Term) → AtVariables (OfSize ns all places) 0 left → ((x : ℕ) → has_variable x ts ≡ true → has_variable x left ≡ true) → AllSized ns places (copies left before ts) (map (size_of all places) (copies left before ts))
  sized_copies left before [] a h = tt
  sized_copies left before (instrument n ∷ ts) a h = sized_copies left (before ++ instrument n ∷ []) ts a h
  sized_copies left before (apply f us ∷ ts) a h = sized_copies left (before ++ apply f us ∷ []) ts a h
  sized_copies left before (variable x ∷ ts) a h = go (has_variable x before) (sized_copies left (before ++ variable x ∷ []) ts a (λ y e. h y (or_true (is_variable y (variable x)) e)))
    where
      rest : List ℕ
      rest = copies left (before ++ variable x ∷ []) ts

      or_true : (b : Bool) {c : Bool} → c ≡ true → (b || c) ≡ true
      or_true true e = refl
      or_true false e = e

      at_left : OfSize ns all places (home x left)
      at_left = subst (OfSize ns all places) (let z : 0 + home x left ≡ home x left = omega arith in z) (at_home (OfSize ns all places) 0 left x a (h x (ap (λ b. b || has_variable x ts) (eq-eqb x x refl))))

      go : (b : Bool) → AllSized ns places rest (map (size_of all places) rest) → AllSized ns places (copy_before (cond b (Copied (home x left)) (Moved (home x left))) rest) (map (size_of all places) (copy_before (cond b (Copied (home x left)) (Moved (home x left))) rest))
      go true z = (at_left, z)
      go false z = z
