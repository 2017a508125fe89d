-- What a step makes, and the visits that search it: to the operators of the right side, since nothing else has a next step.
use Rattle.std.proofs.Common.{◌≡◌, refl, sym, ◌∙◌, ap, subst, List, [], ◌∷◌, ◌++◌, Bool, true, false, cond, ℕ, suc, ◌+◌, ◌<◌, ◌≤◌, length, get_or, Some, arith, length-append}
use Rattle.std.specs.List.{All}
use Rattle.std.proofs.lemmas.List.{get_or_append_left, get_or-append-add}
use Rattle.std.proofs.lemmas.List.Elements.{All-nil, All-cons, All-append}
use Rattle.std.proofs.Math.Option.{none as nothing}
use Rattle.fixed_vec.specs.FixedVec.{items}
use Rattle.terms.specs.Term.{Term, variable, instrument, apply, Terms, nil, cons, symbols, symbols_in}
use Rattle.terms.specs.Signature.{Sig}
use Rattle.terms.specs.Substitution.{Substitution, fill, fill_all}
use Rattle.terms.specs.Rule.{Rule}
use Rattle.rewriting.specs.Rules.{RulesOf}
use Rattle.rewriting.specs.Next.{next}
use Rattle.node_store.specs.Placed.{Placed, at}
use Rattle.terms.specs.declared.symbol.Symbol.TheVariants.{Operator}
use Rattle.compiled.specs.declared.Piece.{Piece}
use Rattle.compiled.specs.declared.Plan.{Plan}
use Rattle.compiled.specs.Symbols.{parts_under}
use Rattle.compiled.specs.Plans.{operators_of, operators_in, operators_under, source_of, Planned}
use Rattle.stepping.specs.Growing.{Grown, nothing as no_part, part, leaf, node, GrownUnder}
use Rattle.engine.specs.declared.visits.Visit.{Visit}
use Rattle.engine.specs.declared.visits.Visit.TheVariants.{Reached}
use Rattle.engine.specs.Searched.{Searched, through, reached, settled, Renewed, quiet, again}
use Rattle.engine.specs.Revisits.{is_operator, visits_to, renewed}
use Rattle.engine.proofs.Nexts.{instrument_none}

visits_to-append : (places xs ys : List ℕ) (vs : List Visit) → visits_to places (xs ++ ys) vs ≡ visits_to places xs (visits_to places ys vs)
visits_to-append places [] ys vs = refl
visits_to-append places (x ∷ xs) ys vs = ap (λ l. Reached (get_or places x 0) ∷ l) (visits_to-append places xs ys vs)

-- ---- the numbers of operators are those of symbols

mutual
  operators_low : (n k : ℕ) (ts : Terms) → k + symbols_in ts ≤ n → All (λ j. j < n) (operators_of k ts)
  operators_low n k nil h = All-nil (λ j. j < n)
  operators_low n k (cons t ts) h = All-append (λ j. j < n) (operators_in k t) (operators_of (k + symbols t) ts) (operator_low n k t (omega arith)) (operators_low n (k + symbols t) ts (omega arith))

  operator_low : (n k : ℕ) (t : Term) → k + symbols t ≤ n → All (λ j. j < n) (operators_in k t)
  operator_low n k (variable x) h = All-nil (λ j. j < n)
  operator_low n k (instrument x) h = All-nil (λ j. j < n)
  operator_low n k (apply f ts) h = All-append (λ j. j < n) (operators_of (suc k) ts) (k ∷ []) (operators_low n (suc k) ts (omega arith)) (All-cons (λ j. j < n) k [] (omega arith) (All-nil (λ j. j < n)))

-- a place for each symbol
pub grown_many : {σ : Substitution} {ts : Terms} {q : Placed} {ps : List ℕ} → Grown σ ts q ps → length ps ≡ symbols_in ts
grown_many no_part = refl
grown_many (part is g) = let a = grown_many g in omega arith
grown_many (leaf g) = let a = grown_many g in omega arith
grown_many (node {ps = ps} {rs = rs} few g h) = let a = grown_many g in let b = grown_many h in omega (arith, length-append ps rs)

-- ---- what is grown is searched by visits to its operators

-- from a number on the places are these
abbrev pub Segment : List ℕ → ℕ → List ℕ → Type 0
Segment all k ps = (j : ℕ) → j < length ps → get_or all (k + j) 0 ≡ get_or ps j 0

module _ (all : List ℕ) where
  segment_head : (k q : ℕ) (ps : List ℕ) → Segment all k (q ∷ ps) → get_or all k 0 ≡ q
  segment_head k q ps s = let e : k ≡ k + 0 = omega arith in ap (λ i. get_or all i 0) e ∙ s 0 (omega arith)

  segment_tail : (k q : ℕ) (ps : List ℕ) → Segment all k (q ∷ ps) → Segment all (k + 1) ps
  segment_tail k q ps s j h = let e : k + 1 + j ≡ k + suc j = omega arith in ap (λ i. get_or all i 0) e ∙ s (suc j) (omega arith)

  segment_left : (k : ℕ) (ps rs : List ℕ) → Segment all k (ps ++ rs) → Segment all k ps
  segment_left k ps rs s j h = s j (omega (arith, length-append ps rs)) ∙ get_or_append_left ps rs 0 j h

  segment_right : (k n : ℕ) (ps rs : List ℕ) → k + length ps ≡ n → Segment all k (ps ++ rs) → Segment all n rs
  segment_right k n ps rs l s j h =
      let e : n + j ≡ k + (length ps + j) = omega arith in
      ap (λ i. get_or all i 0) e ∙ s (length ps + j) (omega (arith, length-append ps rs)) ∙ get_or-append-add ps rs j 0

  module _ (rules : List Rule) (σ : Substitution) (normal : (x : ℕ) → next rules (σ x) ≡ nothing) (bare : (n : ℕ) → next rules (instrument n) ≡ nothing) where
    grown_searched : {ts : Terms} {q : Placed} {ps : List ℕ} → Grown σ ts q ps → (k : ℕ) → Segment all k ps → (vs : List Visit) → (n : ℕ) × Searched rules q (fill_all σ ts) n (visits_to all (operators_of k ts) vs) vs
    grown_searched no_part k s vs = (0, through)
    grown_searched (part {x = x} {q = q} {ps = ps} is g) k s vs = let (n, d) = grown_searched g (k + 1) (segment_tail k q ps s) vs in (n, settled (normal x) d)
    grown_searched (leaf {n = x} {q = q} {ps = ps} g) k s vs = let (n, d) = grown_searched g (k + 1) (segment_tail k q ps s) vs in (n, settled (bare x) d)
    grown_searched (node {f = f} {q = q} {ks = ks} {us = us} {fs = fs} {ts = ts} {ps = ps} {rs = rs} few g h) k s vs =
        let a = operators_of (suc k) fs in
        let b = operators_of (k + suc (symbols_in fs)) ts in
        let tail = segment_tail k q (ps ++ rs) s in
        let l = grown_many g in
        let z : k + 1 ≡ suc k = omega arith in
        let (n, d) = grown_searched g (suc k) (subst (λ i. Segment all i ps) z (segment_left (k + 1) ps rs tail)) (Reached q ∷ visits_to all b vs) in
        let (m, e) = grown_searched h (k + suc (symbols_in fs)) (segment_right (k + 1) (k + suc (symbols_in fs)) ps rs (omega arith) tail) vs in
        let w : visits_to all ((a ++ k ∷ []) ++ b) vs ≡ visits_to all a (Reached q ∷ visits_to all b vs) =
        visits_to-append all (a ++ k ∷ []) b vs ∙ visits_to-append all a (k ∷ []) (visits_to all b vs) ∙ ap (λ i. visits_to all a (Reached i ∷ visits_to all b vs)) (segment_head k q (ps ++ rs) s)
        in
        (n + suc m, subst (λ l. Searched rules (at q (Some (Operator f)) ks us) (fill_all σ (cons (apply f fs) ts)) (n + suc m) l vs) (sym w) (reached d e))

-- ---- of the whole right side

visited : (p : Plan) (place : ℕ) (places : List ℕ) (before : List Visit) (ns : List ℕ) (b : Bool) → items p.visits ≡ ns → is_operator p.root.source ≡ b → renewed p place places before ≡ visits_to places ns (cond b (Reached place ∷ before) before)
visited p place places before ns b e f = λ i. visits_to places (e i) (cond (f i) (Reached place ∷ before) before)

module _ (sig : Sig) (rules : List Rule) (over : RulesOf sig rules) (σ : Substitution) (normal : (x : ℕ) → next rules (σ x) ≡ nothing) (p : Plan) (place : ℕ) (places : List ℕ) (before : List Visit) where
  renewed_side : (l : List Term) (right : Term) (row : Placed) → items p.visits ≡ operators_under right → is_operator p.root.source ≡ is_operator (source_of l [] right) → GrownUnder σ right row places → Renewed rules place row (fill σ right) (renewed p place places before) before
  renewed_side l (variable x) row e f g = subst (λ vs. Renewed rules place row (σ x) vs before) (sym (visited p place places before [] false e f)) (quiet (normal x))
  renewed_side l (instrument x) row e f g = subst (λ vs. Renewed rules place row (instrument x) vs before) (sym (visited p place places before [] false e f)) (quiet (instrument_none sig rules over x))
  renewed_side l (apply h ts) row e f g =
      let s : Segment places 0 places = λ j i. let z : 0 + j ≡ j = omega arith in ap (λ i. get_or places i 0) z in
      let (n, d) = grown_searched places rules σ normal (instrument_none sig rules over) g 0 s (Reached place ∷ before) in
      subst (λ vs. Renewed rules place row (apply h (fill_all σ ts)) vs before) (sym (visited p place places before (operators_of 0 ts) true e f)) (again d)

  pub renewed_by_step : (r : Rule) (row : Placed) → Planned r p → GrownUnder σ r.right row places → Renewed rules place row (fill σ r.right) (renewed p place places before) before
  renewed_by_step r row w g = renewed_side (parts_under r.left) r.right row w.visits (ap (λ (x : Piece). is_operator x.source) w.root) g

  low_side : (right : Term) (row : Placed) → GrownUnder σ right row places → All (λ j. j < length places) (operators_under right)
  low_side (variable x) row g = All-nil (λ j. j < length places)
  low_side (instrument x) row g = All-nil (λ j. j < length places)
  low_side (apply h ts) row g = let l = grown_many g in operators_low (length places) 0 ts (omega arith)

  pub numbers_low : (r : Rule) (row : Placed) → Planned r p → GrownUnder σ r.right row places → All (λ j. j < length places) (items p.visits)
  numbers_low r row w g = subst (All (λ j. j < length places)) (sym w.visits) (low_side r.right row g)
