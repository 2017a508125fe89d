-- Sizes of terms, listed and added up.
use Rattle.std.proofs.Common.{◌≡◌, ℕ, zero, suc, ◌+◌, ◌<◌, ◌≤◌, List, [], ◌∷◌, ◌++◌, length, take, get_or, sum, Result, OnOk, OnErr, refl, sym, ap, ◌∙◌, subst, arith}
use Rattle.std.proofs.lemmas.List.{length-append, length-take, take_more, take_all}
use Rattle.std.proofs.lemmas.List.Sums.{sum_by_more}
use Rattle.fixed_vec.specs.declared.Full.{Full}
use Rattle.terms.specs.declared.node.Node.{Node}
use Rattle.node_store.specs.Memory.{counted}
use Rattle.node_store.specs.Placed.{Placed, none, at, size}
use Rattle.matching.specs.Surveying.{in_order}
use Rattle.matching.specs.Sizing.{Sized, AllSized}
use Rattle.matching.proofs.Onwards.{listed}

pub in_order_long : (q : Placed) → length (in_order q) ≡ size q
in_order_long none = refl
in_order_long (at i s ks us) =
    let a = in_order_long ks in
    let b = in_order_long us in
    let l = length-append (in_order ks) (in_order us) in
    omega arith

-- a term has one size
pub size_read : (order : List ℕ) (n : ℕ) (q : Placed) → order ≡ in_order q → n ≡ suc (size q) → length order + 1 ≡ n
size_read order n q e f = let a = ap length e in let b = in_order_long q in omega arith

as_many_sizes : (ns : List Node) (places ks sizes : List ℕ) → AllSized ns places ks sizes → length sizes ≡ length ks
as_many_sizes ns places [] [] a = refl
as_many_sizes ns places [] (n ∷ sizes) a = absurd a
as_many_sizes ns places (k ∷ ks) [] a = absurd a
as_many_sizes ns places (k ∷ ks) (n ∷ sizes) a = ap suc (as_many_sizes ns places ks sizes a.1)

sized_at : (ns : List Node) (places ks sizes : List ℕ) (i : ℕ) → i < length ks → AllSized ns places ks sizes → Sized ns (get_or places (get_or ks i 0) 0) (get_or sizes i 0)
sized_at ns places [] sizes i h a = absurd (let y : ⊥ = omega arith in y)
sized_at ns places (k ∷ ks) [] i h a = absurd a
sized_at ns places (k ∷ ks) (n ∷ sizes) zero h a = a.0
sized_at ns places (k ∷ ks) (n ∷ sizes) (suc i) h a = sized_at ns places ks sizes i (omega arith) a.1

-- one size more is counted
count_more : (before n start i : ℕ) (sizes : List ℕ) → i < length sizes → n ≡ get_or sizes i 0 → before ≡ counted (start + sum (take i sizes)) → counted (before + n) ≡ counted (start + sum (take (i + 1) sizes))
count_more before n start i sizes h e b = let s = sum_by_more (λ x. x) sizes i 0 h in omega arith

module _ (ns : List Node) (places ks numbers sizes : List ℕ) (same : numbers ≡ ks) (all : AllSized ns places ks sizes) where
  as_many : length sizes ≡ length numbers
  as_many = as_many_sizes ns places ks sizes all ∙ ap length (sym same)

  -- the size of the term that is next
  pub next_size : (i p : ℕ) → i < length numbers → p ≡ get_or places (get_or numbers i 0) 0 → Sized ns p (get_or sizes i 0)
  next_size i p h e = subst (λ q. Sized ns q (get_or sizes i 0)) (sym e) (subst (λ l. Sized ns (get_or places (get_or l i 0) 0) (get_or sizes i 0)) (sym same) (sized_at ns places ks sizes i (let l = ap length same in omega arith) all))

  pub next_count : (i n before start : ℕ) → i < length numbers → n ≡ get_or sizes i 0 → before ≡ counted (start + sum (take i sizes)) → counted (before + n) ≡ counted (start + sum (take (i + 1) sizes))
  next_count i n before start h e b = count_more before n start i sizes (let l = as_many in omega arith) e b

  pub last_count : (i n start : ℕ) → length numbers ≤ i → n ≡ counted (start + sum (take i sizes)) → n ≡ counted (start + sum sizes)
  last_count i n start h e = e ∙ ap (λ l. counted (start + sum l)) (take_all i sizes (let l = as_many in omega arith))

  -- it is listed
  pub next_listed : (i n : ℕ) (old new : List ℕ) (r : Result (Unit {0}) Full) → length numbers ≤ 8 → i < length numbers → n ≡ get_or sizes i 0 → old ≡ take i sizes → OnOk r (new ≡ old ++ n ∷ []) → OnErr r (8 ≤ length old) → new ≡ take (i + 1) sizes
  next_listed i n old new r few h e o put full =
      let l = as_many in
      let t = length-take i sizes in
      let z = ap length o in
      listed 8 old new n r (omega arith) put full ∙ (λ d. o d ++ e d ∷ []) ∙ sym (take_more sizes i 0 (omega arith))

  pub last_listed : (i : ℕ) (old : List ℕ) → length numbers ≤ i → old ≡ take i sizes → old ≡ sizes
  last_listed i old h e = e ∙ take_all i sizes (let l = as_many in omega arith)
