-- The rules that may match where a symbol stands, tried from the lowest on.
use Rattle.std.proofs.Common.{◌≡◌, refl, sym, ◌∙◌, ap, subst, List, ◌⊎◌, Bool, true, false, not, ◌&&◌, cond, ◌==◌, ℕ, ◌+◌, ◌<◌, ◌≤◌, length, get_or, Some, None, Option, ⊎_elim, arith, eqb-true, eq-eqb}
use Rattle.std.proofs.lemmas.Bool.{cases_lt, cases_Bool, and_parts, and_cases, both_ways, not-false, false_from_ne_true}
use Rattle.std.proofs.Math.Option.{none as nothing}
use Rattle.terms.specs.declared.node.Node.{Node}
use Rattle.terms.specs.declared.symbol.Symbol.{Symbol}
use Rattle.terms.specs.declared.symbol.Symbol.TheVariants.{Variable, Instrument, Operator}
use Rattle.terms.specs.Term.{Term, variable, instrument, apply}
use Rattle.terms.specs.Nodes.{vacant}
use Rattle.terms.specs.Signature.{Sig}
use Rattle.terms.specs.Rule.{Rule, OperatorFirst}
use Rattle.rewriting.specs.Rules.{left_of, rule_at, RulesOf}
use Rattle.rewriting.specs.Next.{matching, matching_all, contracted}
use Rattle.node_store.specs.Memory.{Memory}
use Rattle.node_store.specs.Placed.{Placed, none, at, link, Holds, IsTerm}
use Rattle.node_store.specs.Loading.{arguments_of}
use Rattle.compiled.specs.declared.CompiledRules.{CompiledRules}
use Rattle.compiled.specs.declared.Plan.{Plan}
use Rattle.rule_set.specs.declared.RuleSet.{RuleSet}
use Rattle.rule_set.specs.Members.{has, HasNone, HasNoneBelow}
use Rattle.compiled.specs.Compiled.{BeginsWith, Beginning, front, may_begin_under, RulesOut, PlanOf, IsCompiled}
use Rattle.matching.specs.Matching.{Matched, Decides}
use Rattle.engine.specs.Searched.{Idle}
use Rattle.engine.specs.Searching.{Candidates, Begins, Narrows, Shows, Fits}
use Rattle.engine.proofs.Nexts.{contracted_none, contracted_some}
use Rattle.engine.proofs.Tops.{arguments_are}
use Rattle.engine.proofs.Fronts.{first_ruled_out, second_ruled_out}

-- ---- operators in front

-- a left side with another operator in front does not match
no_match : (a t : Term) (f : ℕ) → OperatorFirst a → BeginsWith f t → (BeginsWith f a → ⊥) → matching a t ≡ nothing
no_match (variable x) t f o b n = absurd o
no_match (instrument x) t f o b n = absurd o
no_match (apply g ls) (variable x) f o b n = absurd b
no_match (apply g ls) (instrument x) f o b n = absurd b
no_match (apply g ls) (apply h ts) f o b n = go (g == h) refl
  where
    go : (c : Bool) → (g == h) ≡ c → cond c (matching_all ls ts) nothing ≡ nothing
    go true e = absurd (n (b ∙ sym (eqb-true g h e)))
    go false e = refl

-- one with the same operator in front matches as its arguments do
same_front : (a t : Term) (f : ℕ) → BeginsWith f a → BeginsWith f t → matching a t ≡ matching_all (arguments_of a) (arguments_of t)
same_front (variable x) t f a b = absurd a
same_front (instrument x) t f a b = absurd a
same_front (apply g ls) (variable x) f a b = absurd b
same_front (apply g ls) (instrument x) f a b = absurd b
same_front (apply g ls) (apply h ts) f a b = ap (λ c. cond c (matching_all ls ts) nothing) (eq-eqb g h (sym a ∙ b))

operator_front : (s : Option Symbol) (f : ℕ) (ks : Placed) (t : Term) → s ≡ Some (Operator f) → IsTerm s ks t → BeginsWith f t
operator_front s f ks (variable x) e a = let z : Some (Operator f) ≡ Some (Variable x) = sym e ∙ a.0 in absurd (let y : ◌≡◌ {A = ℕ} 0 1 = cc in let w : ⊥ = omega arith in w)
operator_front s f ks (instrument x) e a = let z : Some (Operator f) ≡ Some (Instrument x) = sym e ∙ a.0 in absurd (let y : ◌≡◌ {A = ℕ} 0 1 = cc in let w : ⊥ = omega arith in w)
operator_front s f ks (apply g ts) e a = let z : Some (Operator f) ≡ Some (Operator g) = sym e ∙ a.0 in cc

-- a rule does not match where neither a variable nor an instrument begins it
bare : (s : Option Symbol) → ((f : ℕ) → s ≡ Some (Operator f) → ⊥) → (a : Term) → OperatorFirst a → (ks : Placed) (t : Term) → IsTerm s ks t → matching a t ≡ nothing
bare s n (variable y) o ks t a = absurd o
bare s n (instrument y) o ks t a = absurd o
bare s n (apply g ls) o ks (variable x) a = refl
bare s n (apply g ls) o ks (instrument x) a = refl
bare s n (apply g ls) o ks (apply f ts) a = absurd (n f a.0)

-- ---- the first candidates

begins_bare : (c : CompiledRules) (s : Option Symbol) (set : RuleSet) → HasNone set → ((f : ℕ) → s ≡ Some (Operator f) → ⊥) → Begins c s set
begins_bare c s set e n sig rules over is ks t a =
    record { known = λ i h. absurd (both_ways (has set i) (e i) h); begin = λ i h. absurd (both_ways (has set i) (e i) h); others = λ i l h. bare s n (left_of rules i) (over i l).operator_first ks t a }

pub begins_none : (c : CompiledRules) (s : Option Symbol) (set : RuleSet) → s ≡ None → HasNone set → Begins c s set
begins_none c s set e h = begins_bare c s set h (λ f q. let z : None ≡ Some (Operator f) = sym e ∙ q in let y : ◌≡◌ {A = ℕ} 0 1 = cc in let w : ⊥ = omega arith in w)

pub begins_other : (c : CompiledRules) (s : Option Symbol) (y : Symbol) (set : RuleSet) → s ≡ Some y → ((x : ℕ) × (y ≡ Variable x)) ⊎ ((x : ℕ) × (y ≡ Instrument x)) → HasNone set → Begins c s set
begins_other c s y set e n h = begins_bare c s set h (λ f q. ⊎_elim
    (λ (v : (x : ℕ) × (y ≡ Variable x)). let z : Some (Variable v.0) ≡ Some (Operator f) = ap Some (sym v.1) ∙ sym e ∙ q in let y : ◌≡◌ {A = ℕ} 0 1 = cc in let w : ⊥ = omega arith in w)
    (λ (v : (x : ℕ) × (y ≡ Instrument x)). let z : Some (Instrument v.0) ≡ Some (Operator f) = ap Some (sym v.1) ∙ sym e ∙ q in let y : ◌≡◌ {A = ℕ} 0 1 = cc in let w : ⊥ = omega arith in w)
    n)

pub begins_operator : (c : CompiledRules) (s : Option Symbol) (y : Symbol) (f : ℕ) (set : RuleSet) → s ≡ Some y → y ≡ Operator f → ((rules : List Rule) → IsCompiled rules c → Beginning rules f set) → Begins c s set
begins_operator c s y f set e z h sig rules over is ks t a =
    let b = operator_front s f ks t (e ∙ ap Some z) a in
    let d = h rules is in
    record {
      known = λ i m. (d.only i m).0;
      begin = λ i m. same_front (left_of rules i) t f (d.only i m).1 b;
      others = λ i l m. no_match (left_of rules i) t f (over i l).operator_first b (λ x. both_ways (has set i) m (d.all i l x));
    }

-- no rule matches where there is no candidate
pub no_candidate : (c : CompiledRules) (s : Option Symbol) (set : RuleSet) → HasNone set → Begins c s set → (sig : Sig) (rules : List Rule) → RulesOf sig rules → IsCompiled rules c → Idle rules s
no_candidate c s set e b sig rules over is ks t a = let d = b sig rules over is ks t a in contracted_none rules t (λ k l. d.others k l (e k))

-- ---- fewer candidates

-- those of another set are left out, of which none matches
meet : (rules : List Rule) (t : Term) (all more fewer : RuleSet) → ((i : ℕ) → has fewer i ≡ (has all i && has more i)) → ((i : ℕ) → i < length rules → has more i ≡ false → matching_all (arguments_of (left_of rules i)) (arguments_of t) ≡ nothing) → Candidates rules t all → Candidates rules t fewer
meet rules t all more fewer e out d =
    record {
      known = λ i h. d.known i (and_parts (has all i) (has more i) (sym (e i) ∙ h)).0;
      begin = λ i h. d.begin i (and_parts (has all i) (has more i) (sym (e i) ∙ h)).0;
      others = λ i l h. ⊎_elim (λ (x : has all i ≡ true). ⊎_elim (λ (y : has all i ≡ false). d.others i l y) (λ (y : has more i ≡ false). d.begin i x ∙ out i l y) (and_cases (has all i) (has more i) (sym (e i) ∙ h)))
          (λ (x : has all i ≡ false). d.others i l x)
          (cases_Bool (has all i));
    }

place_is : (p q : ℕ) → Some p ≡ Some q → p ≡ q
place_is p q e = cc

module _ (m : Memory) (c : CompiledRules) (before : RuleSet) where
  pub all_left : (first : Option ℕ) → Narrows m c first before before
  all_left first rules is s ks t holds l a d = d

  module _ (place : ℕ) (one : Node) (is_one : one ≡ get_or m.nodes place vacant) (set fewer : RuleSet) (out : (rules : List Rule) → IsCompiled rules c → RulesOut rules 0 one.symbol set) (met : (i : ℕ) → has fewer i ≡ (has before i && has set i)) where
    first_row : (rules : List Rule) → IsCompiled rules c → (s : Option Symbol) (ks : Placed) (t : Term) → Holds m.nodes ks → link ks ≡ Some place → IsTerm s ks t → Candidates rules t before → Candidates rules t fewer
    first_row rules is s none t holds l a d = absurd (let y : ◌≡◌ {A = ℕ} 0 1 = cc in let w : ⊥ = omega arith in w)
    first_row rules is s (at p r js us) t holds l a d =
        let z : one.symbol ≡ r = ap (λ (x : Node). x.symbol) (is_one ∙ ap (λ i. get_or m.nodes i vacant) (sym (place_is p place l)) ∙ holds.1) in
        meet rules t before set fewer met (λ i b h. first_ruled_out (left_of rules i) (arguments_of t) p r js us (arguments_are s (at p r js us) t a) (ap (λ x. may_begin_under 0 (left_of rules i) (front x)) (sym z) ∙ out rules is i b h)) d

    pub one_tried : (first : Option ℕ) → first ≡ Some place → Narrows m c first before fewer
    one_tried first e rules is s ks t holds l a d = first_row rules is s ks t holds (l ∙ e) a d

    module _ (second : ℕ) (is_second : one.next ≡ Some second) (two : Node) (is_two : two ≡ get_or m.nodes second vacant) (set₂ fewest : RuleSet) (out₂ : (rules : List Rule) → IsCompiled rules c → RulesOut rules 1 two.symbol set₂) (met₂ : (i : ℕ) → has fewest i ≡ (has fewer i && has set₂ i)) where
      second_row : (rules : List Rule) → IsCompiled rules c → (s : Option Symbol) (ks : Placed) (t : Term) → Holds m.nodes ks → link ks ≡ Some place → IsTerm s ks t → Candidates rules t fewer → Candidates rules t fewest
      second_row rules is s none t holds l a d = absurd (let y : ◌≡◌ {A = ℕ} 0 1 = cc in let w : ⊥ = omega arith in w)
      second_row rules is s (at p r js none) t holds l a d =
          let z : Some second ≡ None = sym is_second ∙ ap (λ (x : Node). x.next) (is_one ∙ ap (λ i. get_or m.nodes i vacant) (sym (place_is p place l)) ∙ holds.1) in
          absurd (let y : ◌≡◌ {A = ℕ} 0 1 = cc in let w : ⊥ = omega arith in w)
      second_row rules is s (at p r js (at q v ks us)) t holds l a d =
          let n : Some q ≡ Some second = sym (ap (λ (x : Node). x.next) (is_one ∙ ap (λ i. get_or m.nodes i vacant) (sym (place_is p place l)) ∙ holds.1)) ∙ is_second in
          let z : two.symbol ≡ v = ap (λ (x : Node). x.symbol) (is_two ∙ ap (λ i. get_or m.nodes i vacant) (sym (place_is q second n)) ∙ holds.3.1) in
          meet rules t fewer set₂ fewest met₂ (λ i b h. second_ruled_out (left_of rules i) (arguments_of t) p q r v js ks us (arguments_are s (at p r js (at q v ks us)) t a) (ap (λ x. may_begin_under 1 (left_of rules i) (front x)) (sym z) ∙ out₂ rules is i b h)) d

      pub two_tried : (first : Option ℕ) → first ≡ Some place → Narrows m c first before fewest
      two_tried first e rules is s ks t holds l a d = second_row rules is s ks t holds (l ∙ e) a (first_row rules is s ks t holds (l ∙ e) a d)

-- ---- trying them

-- these candidates are left after n turns
pub record Trying (rules : List Rule) (t : Term) (n : ℕ) (set : RuleSet) : Type 0 where
  pub left : Candidates rules t set
  pub tried : HasNoneBelow set n

module _ (rules : List Rule) (t : Term) where
  pub first_try : (set : RuleSet) → Candidates rules t set → Trying rules t 0 set
  first_try set d = record { left = d; tried = λ i l. absurd (let z : ⊥ = omega arith in z) }

  -- no candidate is left
  pub none_left : (set : RuleSet) → Candidates rules t set → HasNone set → contracted rules t ≡ nothing
  none_left set d e = contracted_none rules t (λ k l. d.others k l (e k))

  -- as many as there may be rules have been tried
  pub tried : (n : ℕ) (set : RuleSet) → length rules ≤ n → Trying rules t n set → contracted rules t ≡ nothing
  tried n set l d = contracted_none rules t (λ k i. d.left.others k i (d.tried k (omega arith)))

module _ (rules : List Rule) (s : Option Symbol) (ks : Placed) (t : Term) (a : IsTerm s ks t) (ns : List Node) (place : ℕ) (shows : Shows ns place s ks) (n j : ℕ) (set : RuleSet) (d : Trying rules t n set) (member : has set j ≡ true) (least : HasNoneBelow set j) (p : Plan) (of : PlanOf rules j p) (first : Option ℕ) (is_first : first ≡ (get_or ns place vacant).first) (places : List ℕ) where
  decided : (b : Bool) → Matched ns p first places b → Decides (arguments_of (left_of rules j)) ks (arguments_of t) places b
  decided b w = w (rule_at rules j) ks (arguments_of t) of.planned shows.row (sym (is_first ∙ shows.first)) (arguments_are s ks t a)

  -- the candidate does not match
  pub next_try : (rest : RuleSet) → ((i : ℕ) → has rest i ≡ (has set i && not (i == j))) → Matched ns p first places false → Trying rules t (n + 1) rest
  next_try rest e w =
      let old = λ (i : ℕ) (h : has rest i ≡ true). (and_parts (has set i) (not (i == j)) (sym (e i) ∙ h)).0 in
      let fails : matching (left_of rules j) t ≡ nothing = d.left.begin j member ∙ decided false w in
      let here = λ (i : ℕ) (h : not (i == j) ≡ false). eqb-true i j (not-false (i == j) h) in
      record {
        left = record {
          known = λ i h. d.left.known i (old i h);
          begin = λ i h. d.left.begin i (old i h);
          others = λ i l h. ⊎_elim (λ (x : has set i ≡ false). d.left.others i l x) (λ (x : not (i == j) ≡ false). subst (λ k. matching (left_of rules k) t ≡ nothing) (sym (here i x)) fails) (and_cases (has set i) (not (i == j)) (sym (e i) ∙ h));
        };
        tried = λ i l. false_from_ne_true (has rest i) (λ h. go i l (and_parts (has set i) (not (i == j)) (sym (e i) ∙ h)));
      }
    where
      go : (i : ℕ) → i < n + 1 → (has set i ≡ true) × (not (i == j) ≡ true) → ⊥
      go i l (x, y) = ⊎_elim (λ (m : i < j). both_ways (has set i) (least i m) x)
          (λ (m : j ≤ i). ⊎_elim (λ (o : j < n). both_ways (has set j) (d.tried j o) member)
          (λ (o : n ≤ j). let q : i ≡ j = omega arith in both_ways (not (i == j)) (ap not (eq-eqb i j q)) y)
          (cases_lt j n))
          (cases_lt i j)

  -- it does
  pub fits : Matched ns p first places true → Fits rules j ks t places
  fits w =
      let (kept, m, x, e) = decided true w in
      record { known = d.left.known j member; kept = kept; bindings = m; peeled = x; matched = e; makes = contracted_some rules t j m (d.left.known j member) (λ k l. d.left.others k (let z = d.left.known j member in omega arith) (least k l)) (d.left.begin j member ∙ e) }
