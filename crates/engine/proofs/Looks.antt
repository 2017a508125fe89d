-- Looking at a row, and the turns of a search.
use Rattle.std.proofs.Common.{◌≡◌, refl, sym, ◌∙◌, ap, subst, List, [], ◌∷◌, false, ℕ, ◌+◌, ◌<◌, ◌≤◌, length, get_or, Some, None, Option, is_some, arith}
use Rattle.terms.specs.declared.node.Node.{Node}
use Rattle.terms.specs.declared.symbol.Symbol.{Symbol}
use Rattle.terms.specs.Term.{Term}
use Rattle.terms.specs.Nodes.{vacant}
use Rattle.terms.specs.Signature.{Sig}
use Rattle.terms.specs.Rule.{Rule}
use Rattle.terms.specs.Substitution.{fill}
use Rattle.rewriting.specs.Rules.{left_of, right_of}
use Rattle.rewriting.specs.Bindings.{bound}
use Rattle.node_store.specs.Memory.{Memory}
use Rattle.node_store.specs.Loading.{arguments_of}
use Rattle.node_store.specs.Placed.{Placed, link, Held}
use Rattle.rule_set.specs.declared.RuleSet.{RuleSet}
use Rattle.rule_set.specs.Members.{HasNone}
use Rattle.compiled.specs.declared.CompiledRules.{CompiledRules}
use Rattle.engine.specs.declared.visits.Visit.{Visit}
use Rattle.engine.specs.declared.visits.Visit.TheVariants.{Fresh, Reached}
use Rattle.engine.specs.Searched.{ahead, Idle, Seeking}
use Rattle.engine.specs.Searching.{Prepared, Begins, Finds, Looks, Searches, Starts}
use Rattle.engine.proofs.Nexts.{bound_normal}
use Rattle.engine.proofs.Candidates.{no_candidate}
use Rattle.engine.proofs.Seeks.{RowFirst, seeking_turns, seeking_short, seeking_none, seeking_row, seeking_node, seeking_all, root_node}

length-ahead : (l : Option ℕ) (vs : List Visit) → length vs ≤ length (ahead l vs)
length-ahead None vs = omega arith
length-ahead (Some i) vs = omega arith

no_link : (l : Option ℕ) → is_some l ≡ false → l ≡ None
no_link None e = refl
no_link (Some j) e = absurd (let z : ◌≡◌ {A = ℕ} 0 1 = cc in let w : ⊥ = omega arith in w)

module _ (m : Memory) (c : CompiledRules) (i : ℕ) (before : List Visit) (node : Node) (is : node ≡ get_or m.nodes i vacant) where
  -- there is room for one more visit
  room : {sig : Sig} {rules : List Rule} {h : Held} {root : ℕ} {s : Option Symbol} {ks : Placed} {t : Term} {g : Placed} → Prepared m c sig rules h root s ks t g → (n : ℕ) → Seeking rules root ks t n (Fresh i ∷ before) → length before < 16384
  room p n d = let a = seeking_short p n (Fresh i ∷ before) d in omega arith

  -- the node is visited after its arguments
  pub looked : (mid after : List Visit) → (length before < 16384 → mid ≡ ahead node.next before) → (length mid < 16384 → after ≡ Reached i ∷ mid) → Looks m c i before after node.first
  looked mid after e f sig rules h root s ks t g p n d =
      let r = seeking_row p n i before d in
      let (k, l, v) = r.visit in
      let a = e (room p n d) in
      let first : node.first ≡ link r.under = ap (λ (x : Node). x.first) (is ∙ r.node) in
      let next : node.next ≡ link r.others = ap (λ (x : Node). x.next) (is ∙ r.node) in
      let b : mid ≡ ahead (link r.others) before = a ∙ ap (λ z. ahead z before) next in
      let short = seeking_short p k (ahead (link r.under) (Reached i ∷ ahead (link r.others) before)) v in
      let long = length-ahead (link r.under) (Reached i ∷ ahead (link r.others) before) in
      let o = ap length b in
      let after_is : after ≡ Reached i ∷ ahead (link r.others) before = f (omega arith) ∙ ap (λ z. Reached i ∷ z) b in
      (k, l, subst (λ z. Seeking rules root ks t k (ahead z after)) (sym first) (subst (λ z. Seeking rules root ks t k (ahead (link r.under) z)) (sym after_is) v))

  module _ (set : RuleSet) (none : HasNone set) (begins : Begins c node.symbol set) where
    idle : {sig : Sig} {rules : List Rule} {h : Held} {root : ℕ} {s : Option Symbol} {ks : Placed} {t : Term} {g : Placed} → Prepared m c sig rules h root s ks t g → {n : ℕ} → (r : RowFirst m.nodes rules root ks t n i before) → Idle rules r.symbol
    idle {sig} {rules} p r = subst (Idle rules) (ap (λ (x : Node). x.symbol) (is ∙ r.node)) (no_candidate c node.symbol set none begins sig rules p.over p.compiled)

    -- the node is not visited, but its arguments are looked at
    pub looked_below : (after : List Visit) → (length before < 16384 → after ≡ ahead node.next before) → Looks m c i before after node.first
    looked_below after e sig rules h root s ks t g p n d =
        let r = seeking_row p n i before d in
        let (k, l, v) = r.pass (idle p r) in
        let first : node.first ≡ link r.under = ap (λ (x : Node). x.first) (is ∙ r.node) in
        let next : node.next ≡ link r.others = ap (λ (x : Node). x.next) (is ∙ r.node) in
        let b : after ≡ ahead (link r.others) before = e (room p n d) ∙ ap (λ z. ahead z before) next in
        (k, l, subst (λ z. Seeking rules root ks t k (ahead z after)) (sym first) (subst (λ z. Seeking rules root ks t k (ahead (link r.under) z)) (sym b) v))

    -- the node is not visited, and has no arguments
    pub looked_past : is_some node.first ≡ false → Looks m c i before before node.next
    looked_past e sig rules h root s ks t g p n d =
        let r = seeking_row p n i before d in
        let (k, l, v) = r.pass (idle p r) in
        let first : link r.under ≡ None = sym (ap (λ (x : Node). x.first) (is ∙ r.node)) ∙ no_link node.first e in
        let next : node.next ≡ link r.others = ap (λ (x : Node). x.next) (is ∙ r.node) in
        (k, l, subst (λ z. Seeking rules root ks t k (ahead z before)) (sym next) (subst (λ z. Seeking rules root ks t k (ahead z (ahead (link r.others) before))) first v))

-- ---- turns of a search

-- after so many turns so many fewer are left
abbrev pub Going : Memory → CompiledRules → List Visit → ℕ → List Visit → Type 0
Going m c start j now =
    (sig : Sig) (rules : List Rule) (h : Held) (root : ℕ) (s : Option Symbol) (ks : Placed) (t : Term) (g : Placed) → Prepared m c sig rules h root s ks t g → (n : ℕ) → Seeking rules root ks t n start
    → (k : ℕ) × (k + j ≤ n) × Seeking rules root ks t k now

module _ (m : Memory) (c : CompiledRules) (start : List Visit) (j : ℕ) where
  pub going_look : (i : ℕ) (before after : List Visit) (r : Option ℕ) → Going m c start j (Fresh i ∷ before) → Looks m c i before after r → Going m c start (j + 1) (ahead r after)
  going_look i before after r w l sig rules h root s ks t g p n d =
      let (k, a, e) = w sig rules h root s ks t g p n d in
      let (k′, b, f) = l sig rules h root s ks t g p k e in
      (k′, omega arith, f)

  pub going_past : (i : ℕ) (places : List ℕ) (before : List Visit) → Going m c start j (Reached i ∷ before) → Finds m c i places None → Going m c start (j + 1) before
  going_past i places before w find sig rules h root s ks t g p n d =
      let (k, a, e) = w sig rules h root s ks t g p n d in
      let v = seeking_node p k i before e in
      let (k′, b, f) = v.pass (find sig rules p.over p.compiled v.symbol v.below v.part v.shows v.is) in
      (k′, omega arith, f)

  -- no search takes so many turns
  never : {sig : Sig} {rules : List Rule} {h : Held} {root : ℕ} {s : Option Symbol} {ks : Placed} {t : Term} {g : Placed} (now : List Visit) → 32800 ≤ j → Going m c start j now → Prepared m c sig rules h root s ks t g → (n : ℕ) → Seeking rules root ks t n start → ⊥
  never now l w p n d = let a = seeking_turns p n start d in let (k, b, e) = w _ _ _ _ _ _ _ _ p n d in omega arith

  pub too_many : (places : List ℕ) (now : List Visit) → 32800 ≤ j → Going m c start j now → Searches m c start places now None
  too_many places now l w sig rules h root s ks t g p n d = absurd (never now l w p n d)

  pub all_visited : (places : List ℕ) (now after : List Visit) → now ≡ [] → Going m c start j now → Searches m c start places after None
  all_visited places now after z w sig rules h root s ks t g p n d =
      let (k, a, e) = w sig rules h root s ks t g p n d in
      seeking_none p k (subst (Seeking rules root ks t k) z e)

  pub found : (i rule : ℕ) (places : List ℕ) (rest : List Visit) → Going m c start j (Reached i ∷ rest) → Finds m c i places (Some rule) → Searches m c start places rest (Some (record { place = i; rule = rule }))
  found i rule places rest w find sig rules h root s ks t g p n d =
      let (k, a, e) = w sig rules h root s ks t g p n d in
      let v = seeking_node p k i rest e in
      let f = find sig rules p.over p.compiled v.symbol v.below v.part v.shows v.is in
      record {
        symbol = v.symbol;
        below = v.below;
        part = v.part;
        sub = v.sub;
        is = v.is;
        fits = f;
        normal = bound_normal sig rules p.over (arguments_of (left_of rules rule)) (arguments_of v.part) f.bindings f.matched v.done;
        onward = v.step (fill (bound f.bindings) (right_of rules rule)) f.makes;
      }

-- ---- looking along rows

module _ (m : Memory) (c : CompiledRules) (i : ℕ) (before : List Visit) (j : ℕ) where
  pub looked_along : (after : List Visit) → Going m c (Fresh i ∷ before) (j + 1) after → Looks m c i before after None
  looked_along after w sig rules h root s ks t g p n d = let (k, a, e) = w sig rules h root s ks t g p n d in (k, omega arith, e)

  pub looked_too-long : (now after : List Visit) → 32800 ≤ j → Going m c (Fresh i ∷ before) j now → Looks m c i before after None
  looked_too-long now after l w sig rules h root s ks t g p n d = absurd (never m c (Fresh i ∷ before) j now l w p n d)

-- ---- the start

pub started : (m : Memory) (root : ℕ) (node : Node) (empty first all : List Visit) → node ≡ get_or m.nodes root vacant → empty ≡ [] → (length empty < 16384 → first ≡ Reached root ∷ empty) → (length first < 16384 → all ≡ ahead node.first first) → Starts m root all
started m root node empty first all is none e f c sig rules h s ks t g p =
    let (n, d) = seeking_all p in
    let z = ap length none in
    let a : first ≡ Reached root ∷ [] = e (omega arith) ∙ ap (λ l. Reached root ∷ l) none in
    let y = ap length a in
    let l : node.first ≡ link ks = ap (λ (x : Node). x.first) (is ∙ root_node p) in
    let b : all ≡ ahead (link ks) (Reached root ∷ []) = f (omega arith) ∙ (λ i. ahead (l i) (a i)) in
    (n, subst (Seeking rules root ks t n) (sym b) d)
