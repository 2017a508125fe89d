-- Giving back the rows of variables that the right side does not have.
use Rattle.std.proofs.Common.{◌≡◌, ℕ, suc, ◌+◌, ◌≤◌, Bool, true, false, cond, List, [], ◌∷◌, ◌++◌, map, length, get_or, None, Option, sym, refl, ap, ◌∙◌, subst, append_assoc, ⊎_elim, ◌⊎◌, arith}
use Rattle.std.proofs.lemmas.List.{length-set, length-append}
use Rattle.std.proofs.Math.Seq.{get_or-append_seam}
use Rattle.terms.specs.declared.symbol.Symbol.{Symbol}
use Rattle.terms.specs.Term.{Term}
use Rattle.rewriting.specs.Bindings.{Bindings}
use Rattle.node_store.specs.Memory.{Memory, given}
use Rattle.node_store.specs.Placed.{Placed, none, at, size, Held}
use Rattle.node_store.specs.Work.{Work}
use Rattle.node_store.proofs.Rows.{to_front, from_front, row_given}
use Rattle.compiled.specs.Symbols.{has_variable}
use Rattle.compiled.specs.Plans.{dropped_from}
use Rattle.matching.specs.Peeling.{size_at}
use Rattle.matching.proofs.Peelings.{Beside, nothing, bound_part, leaf_part, node_part}
use Rattle.stepping.specs.Keeping.{rows_for}
use Rattle.stepping.specs.Parting.{without}
use Rattle.stepping.proofs.Parting.{Loose}

module _ (h : Held) (w : Placed) (right : List Term) (places : List ℕ) (all : List Placed) (sized : (xs ys : List Placed) (i : ℕ) (s : Option Symbol) (ks : Placed) → all ≡ xs ++ at i s ks none ∷ ys → size_at all i ≡ suc (size ks)) where
  pub rows_given : (l : List Term) (ps : List ℕ) (kept : List Placed) (v : Bindings) (k : ℕ) (pre : List ℕ) (xs others : List Placed) (g : Placed) (m : Memory) → Beside w l ps kept v → k ≡ length pre → places ≡ pre ++ ps → all ≡ xs ++ kept → length m.nodes ≤ 65536 → Work m h (kept ++ others) g
      → Loose m h (rows_for (λ x. has_variable x right) v kept ++ others) (without m (dropped_from k l right) (map (λ k. size_at all (get_or places k 0)) (dropped_from k l right)) places)
  rows_given l ps kept v k pre xs others g m nothing n e a few z = record { gone = g; work = z; long = refl }
  rows_given l ps kept v k pre xs others g m (leaf_part {n = i} {q = q} {ts = l′} {ps = ps′} r) n e a few z = rows_given l′ ps′ kept v (suc k) (pre ++ q ∷ []) xs others g m r (omega (arith, length-append pre (q ∷ []))) (e ∙ sym (append_assoc pre (q ∷ []) ps′)) a few z
  rows_given l ps kept v k pre xs others g m (node_part {q = q} {ts = l′} {ps = ps′} r) n e a few z = rows_given l′ ps′ kept v (suc k) (pre ++ q ∷ []) xs others g m r (omega (arith, length-append pre (q ∷ []))) (e ∙ sym (append_assoc pre (q ∷ []) ps′)) a few z
  rows_given l ps kept v k pre xs others g m (bound_part {x = x} {q = q} {s = s} {ks = ks} {t = t} {ts = l′} {ps = ps′} {kept = kept′} {m = v′} b i r) n e a few z =
      go (has_variable x right) (λ o f y. rows_given l′ ps′ kept′ v′ (suc k) (pre ++ q ∷ []) (xs ++ at q s ks none ∷ []) o f y r longer placed kept_all)
    where
      row : Placed
      row = at q s ks none

      sizes : ℕ → ℕ
      sizes k = size_at all (get_or places k 0)

      longer : suc k ≡ length (pre ++ q ∷ [])
      longer = omega (arith, length-append pre (q ∷ []))

      placed : places ≡ (pre ++ q ∷ []) ++ ps′
      placed = e ∙ sym (append_assoc pre (q ∷ []) ps′)

      kept_all : all ≡ (xs ++ row ∷ []) ++ kept′
      kept_all = a ∙ sym (append_assoc xs (row ∷ []) kept′)

      stands : get_or places k 0 ≡ q
      stands = (λ d. get_or (e d) (n d) 0) ∙ get_or-append_seam pre q ps′ 0

      size_is : sizes k ≡ 1 + size ks
      size_is = let z = sized xs kept′ q s ks a in let y = ap (size_at all) stands in omega arith

      rest : List Placed
      rest = rows_for (λ x. has_variable x right) v′ kept′

      numbers : List ℕ
      numbers = dropped_from (suc k) l′ right

      go : (b : Bool) → ((o : List Placed) (f : Placed) (y : Memory) → length y.nodes ≤ 65536 → Work y h (kept′ ++ o) f → Loose y h (rest ++ o) (without y numbers (map sizes numbers) places)) → Loose m h (cond b (row ∷ rest) rest ++ others) (without m (cond b numbers (k ∷ numbers)) (map sizes (cond b numbers (k ∷ numbers))) places)
      go true rec =
          let y = rec (row ∷ others) g m few (from_front m h kept′ others row g z) in
          record { gone = y.gone; work = to_front (without m numbers (map sizes numbers) places) h rest others row y.gone y.work; long = y.long }
      go false rec =
          let y : length (given m (get_or places k 0) (sizes k)).nodes ≡ length m.nodes = length-set m.nodes (get_or places k 0) _ in
          let u = subst (λ p. Work (given m p (sizes k)) h (kept′ ++ others) (at q None ks g)) (sym stands) (row_given m h q s ks (kept′ ++ others) g (sizes k) size_is few z) in
          let r = rec others (at q None ks g) (given m (get_or places k 0) (sizes k)) (omega arith) u in
          record { gone = r.gone; work = r.work; long = r.long ∙ y }

-- one more part is given back
pub without_next : (m k x : Memory) (i n p : ℕ) (ks js ns os ps : List ℕ) → ks ≡ i ∷ js → ns ≡ n ∷ os → p ≡ get_or ps i 0 → k ≡ given m p n → without m ks ns ps ≡ x → without k js os ps ≡ x
without_next m k x i n p ks js ns os ps e f q g a = (λ d. without ((g ∙ ap (λ c. given m c n) q) d) js os ps) ∙ sym (λ d. without m (e d) (f d) ps) ∙ a

without_no_size : (m : Memory) (ks ps : List ℕ) → without m ks [] ps ≡ m
without_no_size m [] ps = refl
without_no_size m (k ∷ ks) ps = refl

pub without_end : (m x : Memory) (ks ns ps : List ℕ) → (ks ≡ []) ⊎ (ns ≡ []) → without m ks ns ps ≡ x → m ≡ x
without_end m x ks ns ps o a = ⊎_elim (λ e. sym (ap (λ l. without m l ns ps) e) ∙ a) (λ e. sym (ap (λ l. without m ks l ps) e ∙ without_no_size m ks ps) ∙ a) o
