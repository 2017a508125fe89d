-- What a step of a rule gives up and makes, and whether there is room for it.
use Rattle.std.proofs.Common.{◌≡◌, ℕ, suc, ◌+◌, ◌<◌, ◌≤◌, true, false, List, [], ◌∷◌, append-nil, map, sum, get_or, nat_le, refl, sym, ap, ◌∙◌, subst, ◌⊎◌, inl, inr, arith}
use Rattle.std.proofs.lemmas.Bool.Decides.{leb_tells}
use Rattle.fixed_vec.specs.FixedVec.{items}
use Rattle.terms.specs.declared.node.Node.{Node}
use Rattle.terms.specs.Term.{Term, variable, instrument, apply, symbols}
use Rattle.terms.specs.Signature.{Sig}
use Rattle.terms.specs.Substitution.{fill, occurrences}
use Rattle.terms.specs.Rule.{Rule, RuleOf, OperatorFirst}
use Rattle.traversal.specs.Walks.{most_symbols}
use Rattle.rewriting.specs.Bindings.{Bindings, bound}
use Rattle.node_store.specs.Memory.{counted}
use Rattle.node_store.specs.Placed.{Placed, Holds, size}
use Rattle.node_store.specs.Loading.{arguments_of}
use Rattle.node_store.proofs.Standing.{term_size}
use Rattle.node_store.proofs.Tracing.{small}
use Rattle.compiled.specs.declared.Plan.{Plan}
use Rattle.compiled.specs.Symbols.{parts_of, parts_under, has_variable, home, plain}
use Rattle.compiled.specs.Plans.{Planned, dropped_from, source_of, copy_before, copied_in}
use Rattle.node_store.specs.Work.{size_all}
use Rattle.matching.specs.Peeling.{Peeled, size_at}
use Rattle.matching.specs.Sizing.{AllSized}
use Rattle.matching.proofs.Peelings.{Beside, peeled_beside, kept_at, peeled_sizes}
use Rattle.matching.proofs.Sums.{times, times_row, times_term, has_times, times_has, sum_at, sum_both, sum_dropped}
use Rattle.matching.proofs.Copies.{copies, copied_under, filled_symbols, weigh_copies, Weighed}
use Rattle.matching.proofs.Rooms.{Standing, standing, found_size, size_of, OfSize, AtVariables, numbered, sized_dropped, sized_copies}

-- the parts behind the root are those of the arguments
pub parts_same : (t : Term) → parts_under t ≡ parts_of (arguments_of t)
parts_same (variable x) = refl
parts_same (instrument n) = refl
parts_same (apply f ts) = refl

-- a rule's variables are in the parts behind its root
pub left_times : (sig : Sig) (r : Rule) → RuleOf sig r → (x : ℕ) → occurrences x r.left ≡ times x (parts_under r.left)
left_times sig r rule x = go r.left rule.operator_first
  where
    go : (t : Term) → OperatorFirst t → occurrences x t ≡ times x (parts_under t)
    go (variable y) o = absurd o
    go (instrument n) o = absurd o
    go (apply f ts) o = sym (times_row x ts)

-- the first symbol on the right is not copied
root_moved : (left : List Term) (t : Term) (ks : List ℕ) → copy_before (source_of left [] t) ks ≡ ks
root_moved left (variable x) ks = refl
root_moved left (instrument n) ks = refl
root_moved left (apply f ts) ks = refl

module _ (sig : Sig) (r : Rule) (rule : RuleOf sig r) (p : Plan) (plan : Planned r p) (ns : List Node) (ks : Placed) (held : Holds ns ks) (few : size ks ≤ most_symbols) (places : List ℕ) (kept : List Placed) (v : Bindings) (peeled : Peeled (arguments_of r.left) ks places kept v) where
  abbrev left : List Term
  left = parts_under r.left

  abbrev right : List Term
  right = r.right ∷ parts_under r.right

  abbrev sizes : ℕ → ℕ
  sizes = size_of kept places

  rows : Beside ks left places kept v
  rows = subst (λ l. Beside ks l places kept v) (sym (parts_same r.left)) (peeled_beside peeled)

  numbers : AtVariables (OfSize ns kept places) 0 left × (size_all kept ≡ sum_at sizes (λ x. true) 0 left)
  numbers = numbered ns ks held few kept (standing rows) places rows 0 [] [] refl refl refl

  -- the variables on the right stand on the left
  right_left : (x : ℕ) → has_variable x right ≡ true → has_variable x left ≡ true
  right_left x h =
      let a = has_times x right h in
      let b = times_term x r.right in
      let c = rule.bound x (omega arith) in
      let d = left_times sig r rule x in
      times_has x left (omega arith)

  weighed : Weighed left sizes (λ x. symbols (bound v x)) right
  weighed x h =
      let a = has_times x left (right_left x h) in
      let b = rule.linear x in
      let c = left_times sig r rule x in
      let k = kept_at rows x (right_left x h) in
      let f = found_size ns ks held k.earlier k.later (get_or places (home x left) 0) k.symbol k.row (subst (Standing ks) k.rows (standing rows)) in
      let g = ap (λ l. size_at l (get_or places (home x left) 0)) k.rows in
      let t = term_size k.symbol k.row (bound v x) k.is in
      (omega arith, omega arith)

  dropped_same : items p.dropped ≡ dropped_from 0 left right
  dropped_same = plan.dropped

  copied_same : items p.copied ≡ copies left [] right
  copied_same = plan.copied ∙ ap copied_in plan.pieces ∙ copied_under left (r.right ∷ []) r.right ∙ sym (root_moved left r.right (copies left (r.right ∷ []) (parts_under r.right)))

  pub all_dropped : AllSized ns places (items p.dropped) (map sizes (items p.dropped))
  all_dropped = subst (λ l. AllSized ns places l (map sizes l)) (sym dropped_same) (sized_dropped ns ks held few kept (standing rows) places 0 left right numbers.0)

  pub all_copied : AllSized ns places (items p.copied) (map sizes (items p.copied))
  all_copied = subst (λ l. AllSized ns places l (map sizes l)) (sym copied_same) (sized_copies ns ks held few kept (standing rows) places left [] right numbers.0 right_left)

  -- how many nodes of rows are moved
  pub moved : ℕ
  moved = sum_at sizes (λ x. has_variable x right) 0 left

  pub given_up : p.before + sum (map sizes (items p.dropped)) + moved ≡ suc (size ks)
  unfolding moved
  given_up =
      let a = peeled_sizes peeled in
      let b = ap plain (append-nil (parts_of (arguments_of r.left)) ∙ sym (parts_same r.left)) in
      let c = numbers.1 in
      let d = sum_both sizes (λ x. has_variable x right) 0 left in
      let e = sum_dropped sizes 0 left right in
      let f = ap (λ l. sum (map sizes l)) dropped_same in
      let g = plan.before in
      omega arith

  pub made : p.after + sum (map sizes (items p.copied)) + moved ≡ symbols (fill (bound v) r.right)
  unfolding moved
  made =
      let a = filled_symbols (bound v) r.right in
      let b = weigh_copies left sizes (λ x. symbols (bound v x)) [] right weighed in
      let c = ap (λ l. sum (map sizes l)) copied_same in
      let d = plan.after in
      omega arith

-- counts as far as 64 bits go tell whether there is room
pub room_same : (a b m s t f after before total : ℕ) → b + m ≡ s → a + m ≡ t → s + f ≤ most_symbols → after ≡ counted a → before ≡ counted b → total ≡ counted (before + f) → nat_le after total ≡ nat_le t (f + s)
room_same a b m s t f after before total x y few u v w = go (leb_tells after total) (leb_tells t (f + s))
  where
    low : s + f ≤ 16384
    low = small (s + f) few

    go : ((nat_le after total ≡ true) × (after ≤ total)) ⊎ ((nat_le after total ≡ false) × (total < after)) → ((nat_le t (f + s) ≡ true) × (t ≤ f + s)) ⊎ ((nat_le t (f + s) ≡ false) × (f + s < t)) → nat_le after total ≡ nat_le t (f + s)
    go (inl p) (inl q) = p.0 ∙ sym q.0
    go (inr p) (inr q) = p.0 ∙ sym q.0
    go (inl p) (inr q) = let h = p.1 in let k = q.1 in absurd (let z : ⊥ = omega (arith, low) in z)
    go (inr p) (inl q) = let h = p.1 in let k = q.1 in absurd (let z : ⊥ = omega (arith, low) in z)
