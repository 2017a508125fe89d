-- The step that was found: whether there is room for it, and what is held and searched after it.
use Rattle.std.proofs.Common.{◌≡◌, sym, ◌∙◌, subst, List, [], Bool, true, false, ℕ, suc, ◌+◌, ◌≤◌, nat_le, Some, None, Option, ⊎_elim, leb-true, leb-false, arith}
use Rattle.terms.specs.declared.symbol.Symbol.{Symbol}
use Rattle.terms.specs.Term.{Term, symbols}
use Rattle.terms.specs.Signature.{Sig}
use Rattle.terms.specs.Substitution.{fill}
use Rattle.terms.specs.Rule.{Rule}
use Rattle.traversal.specs.Walks.{most_symbols}
use Rattle.rewriting.specs.Rules.{rule_at}
use Rattle.rewriting.specs.Bindings.{bound}
use Rattle.node_store.specs.Memory.{Memory}
use Rattle.node_store.specs.Placed.{Placed, Holds, size, Held, also}
use Rattle.node_store.specs.Grafting.{Sub, here, under, later}
use Rattle.node_store.proofs.Grafts.{sub_holds}
use Rattle.node_store.proofs.Regrafting.{AtRoot, root_or_under}
use Rattle.node_store.proofs.Counting.{all_nodes}
use Rattle.node_store.proofs.Standing.{term_size}
use Rattle.compiled.specs.declared.CompiledRules.{CompiledRules}
use Rattle.compiled.specs.declared.Plan.{Plan}
use Rattle.compiled.specs.Compiled.{PlanOf}
use Rattle.matching.specs.Room.{dropped_sizes, Roomed}
use Rattle.stepping.specs.Stepping.{Stepped, Steps}
use Rattle.engine.specs.declared.search.Hit.{Hit}
use Rattle.engine.specs.declared.visits.Visit.{Visit}
use Rattle.engine.specs.Searched.{Seeking}
use Rattle.engine.specs.Searching.{Prepared, Sought, OntoOr}
use Rattle.engine.specs.Revisits.{renewed, Revisits}
use Rattle.engine.proofs.Seeks.{seeking_short}
use Rattle.engine.proofs.Growths.{renewed_by_step, numbers_low}

-- the node and those under it are nodes of the row
sub_size : {p : ℕ} {s : Option Symbol} {ks q : Placed} → Sub p s ks q → 1 + size ks ≤ size q
sub_size here = omega arith
sub_size (under x) = let a = sub_size x in omega arith
sub_size (later x) = let a = sub_size x in omega arith

module _ {m : Memory} {c : CompiledRules} {sig : Sig} {rules : List Rule} {h : Held} {root : ℕ} {s : Option Symbol} {ks : Placed} {t : Term} {g : Placed} (p : Prepared m c sig rules h root s ks t g) {places : List ℕ} {hit : Hit} {before : List Visit} (f : Sought rules root s ks t places hit before) (plan : Plan) (of : PlanOf rules hit.rule plan) where
  holds : Holds m.nodes f.below
  holds = ⊎_elim (λ (r : AtRoot root s ks hit.place f.symbol f.below). subst (Holds m.nodes) (sym r.under) p.work.terms.2) (λ (x : Sub hit.place f.symbol f.below ks). sub_holds m.nodes x p.work.terms.2) (root_or_under f.sub)

  within : suc (size f.below) + m.free ≤ most_symbols
  within =
      let a = sub_size f.sub in
      let b = all_nodes m (also root s ks t h) [] g p.work in
      let d = p.few in
      omega arith

  part_size : symbols f.part ≡ 1 + size f.below
  part_size = term_size f.symbol f.below f.part f.is

  module _ (sizes : List ℕ) (b : Bool) (w : Roomed m plan places sizes b) where
    roomed : (sizes ≡ dropped_sizes plan places f.fits.kept) × (b ≡ nat_le (symbols (fill (bound f.fits.bindings) (rule_at rules hit.rule).right)) (m.free + suc (size f.below)))
    roomed = w sig (rule_at rules hit.rule) f.below f.fits.kept f.fits.bindings (p.over hit.rule f.fits.known) of.planned holds within f.fits.peeled

    -- there is no room
    pub not_made : b ≡ false → (k : Memory) → k ≡ m → (after : List Visit) → OntoOr m c sig rules h root t f.onward.onto k after false
    not_made e k same after =
        let a = leb-false (symbols (fill (bound f.fits.bindings) (rule_at rules hit.rule).right)) (m.free + suc (size f.below)) (sym roomed.1 ∙ e) in
        let x = f.onward.change in
        let y = part_size in
        (omega arith, same)

    module _ (e : b ≡ true) (k : Memory) (made : List ℕ) (r : Option (Unit {0})) (steps : Steps m plan hit.place places sizes k made r) where
      stepped : (r ≡ Some tt) × Stepped m h root s ks hit.place (rule_at rules hit.rule).right f.fits.bindings k made
      stepped = steps sig (rule_at rules hit.rule) (p.over hit.rule f.fits.known) of.planned h root s ks t g p.work p.few f.symbol f.below f.sub f.fits.kept f.fits.bindings f.fits.peeled roomed.0 (leb-true (symbols (fill (bound f.fits.bindings) (rule_at rules hit.rule).right)) (m.free + suc (size f.below)) (sym roomed.1 ∙ e))

      -- a step for which there is room is made
      pub always_made : r ≡ None → ⊥
      always_made z = let u = sym z ∙ stepped.0 in let y : ◌≡◌ {A = ℕ} 0 1 = cc in omega arith

      pub now_made : (after : List Visit) → Revisits plan hit.place made before after → OntoOr m c sig rules h root t f.onward.onto k after true
      now_made after v =
          let q = stepped.1 in
          let n = renewed_by_step sig rules p.over (bound f.fits.bindings) f.normal plan hit.place made before (rule_at rules hit.rule) q.row of.planned q.grown in
          let low = numbers_low sig rules p.over (bound f.fits.bindings) f.normal plan hit.place made before (rule_at rules hit.rule) q.row of.planned q.grown in
          let (s₂, ks₂, z, is, (j, seek)) = f.onward.after q.symbol q.row (renewed plan hit.place made before) q.is n in
          let long = q.long in
          let old = p.few in
          let prepared : Prepared k c sig rules h root s₂ ks₂ f.onward.onto q.gone = record { over = p.over; compiled = p.compiled; work = q.work s₂ ks₂ f.onward.onto z is; few = omega arith } in
          let short = seeking_short prepared j (renewed plan hit.place made before) seek in
          let x = f.onward.change in
          let y = part_size in
          let o = leb-true (symbols (fill (bound f.fits.bindings) (rule_at rules hit.rule).right)) (m.free + suc (size f.below)) (sym roomed.1 ∙ e) in
          (omega arith, record { symbol = s₂; under = ks₂; gone = q.gone; prepared = prepared; long = q.long; turns = j; seeking = subst (Seeking rules root ks₂ f.onward.onto j) (sym (v low short)) seek })
