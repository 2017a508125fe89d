-- A reduction step by step, and where it stops.
use Rattle.std.proofs.Common.{◌≡◌, refl, sym, ◌∙◌, subst, List, [], true, false, ℕ, ◌+◌, ◌<◌, ◌≤◌, length, Some, None, Option, ⊎_elim, arith}
use Rattle.std.proofs.lemmas.Bool.{cases_lt}
use Rattle.std.proofs.Math.Option.{none as nothing, some}
use Rattle.terms.specs.declared.symbol.Symbol.{Symbol}
use Rattle.terms.specs.Term.{Term, symbols}
use Rattle.terms.specs.Signature.{Sig}
use Rattle.terms.specs.Rule.{Rule}
use Rattle.traversal.specs.Walks.{most_symbols}
use Rattle.rewriting.specs.Rules.{RulesOf}
use Rattle.rewriting.specs.Next.{next, run}
use Rattle.rewriting.proofs.Filling.{none_some}
use Rattle.rewriting.proofs.Converging.{run_on, run_then}
use Rattle.machine.specs.Reducing.{reduction}
use Rattle.machine.proofs.Reducing.{GoesByNext, ByNext, reduces, one_reduction}
use Rattle.node_store.specs.Memory.{Memory}
use Rattle.node_store.specs.Placed.{Placed, Held, also}
use Rattle.node_store.specs.Work.{Work}
use Rattle.node_store.proofs.Counting.{all_nodes}
use Rattle.node_store.proofs.Standing.{term_size}
use Rattle.compiled.specs.declared.CompiledRules.{CompiledRules}
use Rattle.compiled.specs.Compiled.{IsCompiled}
use Rattle.engine.specs.declared.reduce.Reduced.{Reduced}
use Rattle.engine.specs.declared.reduce.Stop.TheVariants.{Finished, Spent, Short}
use Rattle.engine.specs.declared.search.Hit.{Hit}
use Rattle.engine.specs.declared.visits.Visit.{Visit}
use Rattle.engine.specs.Searching.{Prepared, Searches, Onto, Makes, Starts}
use Rattle.engine.specs.Reducing.{answered, After, Reduces}

-- so many next steps are made, and the visits search the term after them
pub record Steps (m : Memory) (c : CompiledRules) (sig : Sig) (rules : List Rule) (h : Held) (root allowed : ℕ) (t : Term) (j : ℕ) (k : Memory) (vs : List Visit) : Type 0 where
  pub made : (i : ℕ) → i < j → GoesByNext rules allowed m.free t i
  pub onto : Onto m c sig rules h root (run rules j t) k vs

-- that is so of whatever term is held at the place
abbrev pub Stepping : Memory → CompiledRules → ℕ → ℕ → ℕ → Memory → List Visit → Type 0
Stepping m c root allowed j k vs =
    (sig : Sig) (rules : List Rule) → RulesOf sig rules → IsCompiled rules c → (h : Held) (s : Option Symbol) (ks : Placed) (t : Term) (g : Placed) → Work m (also root s ks t h) [] g → length m.nodes ≤ most_symbols
    → Steps m c sig rules h root allowed t j k vs

module _ (m : Memory) (c : CompiledRules) (root allowed : ℕ) where
  pub no_step : (vs : List Visit) → Starts m root vs → Stepping m c root allowed 0 m vs
  no_step vs w sig rules over is h s ks t g work few =
      let p : Prepared m c sig rules h root s ks t g = record { over = over; compiled = is; work = work; few = few } in
      let (n, d) = w c sig rules h s ks t g p in
      record { made = λ i l. absurd (let z : ⊥ = omega arith in z); onto = record { symbol = s; under = ks; gone = g; prepared = p; long = refl; turns = n; seeking = d } }

  module _ {sig : Sig} {rules : List Rule} {h : Held} {s : Option Symbol} {ks : Placed} {t : Term} {g : Placed} (work : Work m (also root s ks t h) [] g) {j : ℕ} {k : Memory} {vs : List Visit} (d : Steps m c sig rules h root allowed t j k vs) where
    -- the nodes of the term and the free ones are as many as before
    same_nodes : k.free + symbols (run rules j t) ≡ m.free + symbols t
    same_nodes =
        let a = all_nodes m (also root s ks t h) [] g work in
        let b = all_nodes k (also root d.onto.symbol d.onto.under (run rules j t) h) [] d.onto.gone d.onto.prepared.work in
        let e = term_size s ks t work.terms.3 in
        let f = term_size d.onto.symbol d.onto.under (run rules j t) d.onto.prepared.work.terms.3 in
        let l = d.onto.long in
        omega arith

    run_more : (u : Term) → next rules (run rules j t) ≡ some u → run rules (j + 1) t ≡ u
    run_more u e = sym (run_then rules j 1 t) ∙ run_on rules 0 (run rules j t) u e

    go : (i : ℕ) → i < j + 1 → (u : Term) → next rules (run rules j t) ≡ some u → symbols u ≤ k.free + symbols (run rules j t) → j < allowed → GoesByNext rules allowed m.free t i
    go i l u e room on = ⊎_elim (λ (a : i < j). d.made i a)
        (λ (a : j ≤ i). let z : j ≡ i = omega arith in let n = same_nodes in subst (GoesByNext rules allowed m.free t) z (record { allowed_on = on; onto = u; is_next = e; room = omega arith }))
        (cases_lt i j)

    one_step : (u : Term) → next rules (run rules j t) ≡ some u → symbols u ≤ k.free + symbols (run rules j t) → j < allowed → (k′ : Memory) (ws : List Visit) → Onto k c sig rules h root u k′ ws → Steps m c sig rules h root allowed t (j + 1) k′ ws
    one_step u e room on k′ ws o =
        let x = d.onto.long in
        record { made = λ i l. go i l u e room on; onto = subst (λ v. Onto m c sig rules h root v k′ ws) (sym (run_more u e)) (record { symbol = o.symbol; under = o.under; gone = o.gone; prepared = o.prepared; long = o.long ∙ x; turns = o.turns; seeking = o.seeking }) }

    after : (k′ : Memory) → k′ ≡ k → After m h root (run rules j t) k′
    after k′ e = subst (After m h root (run rules j t)) (sym e) (record { symbol = d.onto.symbol; under = d.onto.under; gone = d.onto.gone; work = d.onto.prepared.work; long = d.onto.long })

    end_finished : next rules (run rules j t) ≡ nothing → ByNext rules allowed m.free t (answered (record { steps = j; stop = Finished }))
    end_finished e = record { made = d.made; stops = e }

    end_spent : (u : Term) → next rules (run rules j t) ≡ some u → j ≡ allowed → ByNext rules allowed m.free t (answered (record { steps = j; stop = Spent }))
    end_spent u e l = record { made = d.made; stops = (λ z. none_some (sym z ∙ e), l) }

    end_short : (u : Term) → next rules (run rules j t) ≡ some u → j < allowed → k.free + symbols (run rules j t) < symbols u → ByNext rules allowed m.free t (answered (record { steps = j; stop = Short }))
    end_short u e l room = let n = same_nodes in record { made = d.made; stops = (l, (u, e, omega arith)) }

  -- ---- in the loop

  module _ (j : ℕ) (k : Memory) (vs : List Visit) (w : Stepping m c root allowed j k vs) (places : List ℕ) (ws : List Visit) where
    fixed : (rules : List Rule) (t : Term) (r : Reduced) → ByNext rules allowed m.free t (answered r) → answered r ≡ reduction rules allowed m.free t
    fixed rules t r a = one_reduction rules allowed m.free t (answered r) (reduction rules allowed m.free t) a (reduces rules allowed m.free t)

    pub ended_finished : Searches k c vs places ws None → Reduces m c root allowed k (record { steps = j; stop = Finished })
    ended_finished find sig rules over is h s ks t g work few =
        let d = w sig rules over is h s ks t g work few in
        (fixed rules t (record { steps = j; stop = Finished }) (end_finished work d (find sig rules h root d.onto.symbol d.onto.under (run rules j t) d.onto.gone d.onto.prepared d.onto.turns d.onto.seeking)), after work d k refl)

    pub ended_spent : (hit : Hit) → Searches k c vs places ws (Some hit) → j ≡ allowed → Reduces m c root allowed k (record { steps = j; stop = Spent })
    ended_spent hit find e sig rules over is h s ks t g work few =
        let d = w sig rules over is h s ks t g work few in
        let f = find sig rules h root d.onto.symbol d.onto.under (run rules j t) d.onto.gone d.onto.prepared d.onto.turns d.onto.seeking in
        (fixed rules t (record { steps = j; stop = Spent }) (end_spent work d f.onward.onto f.onward.next e), after work d k refl)

    pub ended_short : (hit : Hit) → Searches k c vs places ws (Some hit) → j < allowed → (k′ : Memory) (xs : List Visit) → Makes k c hit places ws k′ xs false → Reduces m c root allowed k′ (record { steps = j; stop = Short })
    ended_short hit find l k′ xs make sig rules over is h s ks t g work few =
        let d = w sig rules over is h s ks t g work few in
        let f = find sig rules h root d.onto.symbol d.onto.under (run rules j t) d.onto.gone d.onto.prepared d.onto.turns d.onto.seeking in
        let (room, same) = make sig rules h root d.onto.symbol d.onto.under (run rules j t) d.onto.gone d.onto.prepared f in
        (fixed rules t (record { steps = j; stop = Short }) (end_short work d f.onward.onto f.onward.next l room), after work d k′ same)

    pub stepped_on : (hit : Hit) → Searches k c vs places ws (Some hit) → j < allowed → (k′ : Memory) (xs : List Visit) → Makes k c hit places ws k′ xs true → Stepping m c root allowed (j + 1) k′ xs
    stepped_on hit find l k′ xs make sig rules over is h s ks t g work few =
        let d = w sig rules over is h s ks t g work few in
        let f = find sig rules h root d.onto.symbol d.onto.under (run rules j t) d.onto.gone d.onto.prepared d.onto.turns d.onto.seeking in
        let (room, o) = make sig rules h root d.onto.symbol d.onto.under (run rules j t) d.onto.gone d.onto.prepared f in
        one_step work d f.onward.onto f.onward.next room l k′ xs o
