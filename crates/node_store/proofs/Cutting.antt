-- Ending a row behind some of its terms, and putting a node before it.
use Rattle.std.proofs.Common.{◌≡◌, ◌≢◌, ℕ, suc, ◌+◌, ◌-◌, ◌≤◌, List, [], ◌∷◌, length, get_or, set, Some, None, Option, sym, refl, ap, ◌∙◌, subst, arith}
use Rattle.std.proofs.lemmas.List.{get_or-set_same, get_or-set_other, length-set}
use Rattle.terms.specs.declared.node.Node.{Node}
use Rattle.terms.specs.declared.symbol.Symbol.{Symbol}
use Rattle.terms.specs.Term.{Term, variable, instrument, apply, Terms, nil, cons, how_many}
use Rattle.terms.specs.View.{Answers, Stands}
use Rattle.terms.specs.Nodes.{vacant, along}
use Rattle.traversal.specs.Rows.{row_of, StandAll}
use Rattle.traversal.proofs.Rows.{row_short}
use Rattle.node_store.specs.Memory.{Memory}
use Rattle.node_store.specs.Placed.{Placed, none, at, link, Holds, hit, occ, IsTerm, AreTerms, Held}
use Rattle.node_store.specs.Work.{Work, Joined}
use Rattle.node_store.specs.Loading.{arguments_of, before, Built, ended}
use Rattle.node_store.proofs.Placing.{hit_self, keep_set, keep_all_set, keep_rows_set}
use Rattle.node_store.proofs.Helds.{blank_set}
use Rattle.node_store.proofs.Tracing.{row_stands}
use Rattle.node_store.proofs.Rows.{with_none}

-- the node at a place without its next sibling
abbrev bare : List Node → ℕ → Node
bare ns p = record { symbol = (get_or ns p vacant).symbol; first = (get_or ns p vacant).first; next = None }

-- a row in two
record Cut (ns : List Node) (q : Placed) (t : Term) (ts us : Terms) : Type 0 where
  pub front : Placed
  pub back : Placed
  pub last : ℕ
  pub is : along ns (link q) (how_many ts) ≡ Some last
  pub next : link back ≡ (get_or ns last vacant).next
  pub first : link front ≡ link q
  pub hold_front : Holds (set ns last (bare ns last)) front
  pub hold_back : Holds (set ns last (bare ns last)) back
  pub terms_front : AreTerms front (cons t ts)
  pub terms_back : AreTerms back us
  pub places : (j : ℕ) → occ j q ≡ occ j front + occ j back
  pub inside : 1 ≤ occ last front

cut : (ns : List Node) (q : Placed) (t : Term) (ts us : Terms) → Holds ns q → ((j : ℕ) → occ j q ≤ 1) → AreTerms q (cons t (before ts us)) → Cut ns q t ts us
cut ns none t ts us h o a = absurd a
cut ns (at i s ks r) t nil us h o a =
    let n = bare ns i in
    let l = length-set ns i n in
    let x = o i in
    let y = hit_self i in
    record {
      front = at i s ks none;
      back = r;
      last = i;
      is = refl;
      next = sym (ap (λ (x : Node). x.next) h.1);
      first = refl;
      hold_front = (omega (arith, h.0), get_or-set_same ns i n vacant h.0 ∙ (λ d. record { symbol = (h.1 d).symbol; first = (h.1 d).first; next = None }), keep_set ns i n ks (omega arith) h.2, tt);
      hold_back = keep_set ns i n r (omega arith) h.3;
      terms_front = (a.0, tt);
      terms_back = a.1;
      places = λ j. omega arith;
      inside = omega arith;
    }
cut ns (at i s ks r) t (cons u ts) us h o a =
    let c = cut ns r u ts us h.3 (λ j. let x = o j in omega arith) a.1 in
    let n = bare ns c.last in
    let l = length-set ns c.last n in
    let x = o c.last in
    let y = c.places c.last in
    let z = c.inside in
    record {
      front = at i s ks c.front;
      back = c.back;
      last = c.last;
      is = ap (λ (x : Node). along ns x.next (how_many ts)) h.1 ∙ c.is;
      next = c.next;
      first = refl;
      hold_front = (
        omega (arith, h.0),
        get_or-set_other ns c.last i n vacant (λ e. let w = subst (λ k. hit k i ≡ 1) e (hit_self i) in let v : ⊥ = omega arith in v) ∙ h.1 ∙ (λ d. record { symbol = s; first = link ks; next = sym c.first d }),
        keep_set ns c.last n ks (omega arith) h.2,
        c.hold_front,
      );
      hold_back = c.hold_back;
      terms_front = (a.0, c.terms_front);
      terms_back = c.terms_back;
      places = λ j. let p = c.places j in omega arith;
      inside = omega arith;
    }

-- rows of the same length
same_length : (v : Answers) (ps : List ℕ) (ts : Terms) → StandAll v ps ts → length ps ≡ how_many ts
same_length v [] nil s = refl
same_length v [] (cons t ts) s = absurd s
same_length v (p ∷ ps) nil s = absurd s
same_length v (p ∷ ps) (cons t ts) s = ap suc (same_length v ps ts s.1)

pub arity_is : (v : Answers) (p : ℕ) (t : Term) (n : ℕ) → n ≡ length (row_of v p) → v.argument p 3 ≡ None → Stands v p t → how_many (arguments_of t) ≡ n
arity_is v p t n e few s = sym (same_length v (row_of v p) (arguments_of t) (row_stands v p t few s)) ∙ sym e

-- the symbol over the row of its arguments
is_term : (v : Answers) (p : ℕ) (s : Symbol) (a : Placed) (t : Term) → v.symbol p ≡ Some s → Stands v p t → how_many (arguments_of t) ≤ 3 → AreTerms a (arguments_of t) → IsTerm (Some s) a t
is_term v p s a (variable x) e h few w = (sym e ∙ h.0, no_terms a w)
  where
    no_terms : (a : Placed) → AreTerms a nil → a ≡ none
    no_terms none z = refl
    no_terms (at i s x y) z = absurd z
is_term v p s a (instrument n) e h few w = (sym e ∙ h.0, no_terms a w)
  where
    no_terms : (a : Placed) → AreTerms a nil → a ≡ none
    no_terms none z = refl
    no_terms (at i s x y) z = absurd z
is_term v p s a (apply f ts) e h few w = (sym e ∙ h.0, few, w)

built : (m m′ : Memory) (h : Held) (s : Symbol) (a b : Placed) (qs : List Placed) (t : Term) (us : Terms) (k : Memory) (r : Option ℕ) → m′.free ≡ m.free → length m′.nodes ≡ length m.nodes → 1 ≤ m.free → IsTerm (Some s) a t → AreTerms b us → Joined m′ h (Some s) a b qs k r → Built m h qs (cons t us) 1 k r
built m m′ h s a b qs t us k None e l some x y j = absurd (let z : ⊥ = omega arith in z)
built m m′ h s a b qs t us k (Some i) e l some x y (g, w, f, n) = record { new = at i (Some s) a b; gone = g; work = w; begins = refl; terms = (x, y); free = omega arith; long = n ∙ l }

module _ (v : Answers) (m : Memory) (h : Held) (q : Placed) (qs : List Placed) (g : Placed) (p : ℕ) (s : Symbol) (t : Term) (us : Terms) (w : Work m h (q ∷ qs) g) (a : AreTerms q (before (arguments_of t) us)) (few : v.argument p 3 ≡ None) (is : v.symbol p ≡ Some s) (stands : Stands v p t) (some : 1 ≤ m.free) (n : ℕ) (en : n ≡ length (row_of v p)) where
  three : how_many (arguments_of t) ≤ 3
  three = omega (arith, arity_is v p t n en few stands, row_short v p 3 0)

  -- no arguments
  pub added_bare : (k : Memory) (r : Option ℕ) → n ≡ 0 → ((a b g : Placed) → Work m h (a ∷ b ∷ qs) g → link a ≡ None → link b ≡ link q → Joined m h (Some s) a b qs k r) → Built m h qs (cons t us) 1 k r
  added_bare k r z j = go (arguments_of t) refl (arity_is v p t n en few stands ∙ z)
    where
      go : (ts : Terms) → ts ≡ arguments_of t → how_many (arguments_of t) ≡ 0 → Built m h qs (cons t us) 1 k r
      go nil e y = built m m h s none q qs t us k r refl refl some (is_term v p s none t is stands three (subst (AreTerms none) e tt)) (subst (λ ts. AreTerms q (before ts us)) (sym e) a) (j none q g (with_none m h (q ∷ qs) g w) refl refl)
      go (cons x ts) e y = let u = ap how_many e in absurd (let b : ⊥ = omega arith in b)

  -- some arguments
  pub record Split : Type 0 where
    pub front : Placed
    pub back : Placed
    pub last : ℕ
    pub at_last : along m.nodes (link q) (n - 1) ≡ Some last
    pub begins : link front ≡ link q
    pub next : link back ≡ (get_or m.nodes last vacant).next
    pub work : Work (ended m last) h (front ∷ back ∷ qs) g
    pub is_front : AreTerms front (arguments_of t)
    pub is_back : AreTerms back us

  pub split : n ≢ 0 → Split
  split z = go (arguments_of t) refl
    where
      go : (ts : Terms) → ts ≡ arguments_of t → Split
      go nil e = let u = ap how_many e in let x = arity_is v p t n en few stands in absurd (z (omega arith))
      go (cons x ts) e =
          let c = cut m.nodes q x ts us w.rows.0 (λ j. let o = w.once j in omega arith) (subst (λ ts. AreTerms q (before ts us)) (sym e) a) in
          let u = ap how_many e in
          let y = arity_is v p t n en few stands in
          let i : n - 1 ≡ how_many ts = omega arith in
          let b = bare m.nodes c.last in
          let l = length-set m.nodes c.last b in
          let o = w.once c.last in
          let d = c.places c.last in
          let f = c.inside in
          record {
            front = c.front;
            back = c.back;
            last = c.last;
            at_last = ap (along m.nodes (link q)) i ∙ c.is;
            begins = c.first;
            next = c.next;
            work = record {
              terms = keep_all_set m.nodes c.last b h (omega arith) w.terms;
              rows = (c.hold_front, (c.hold_back, keep_rows_set m.nodes c.last b qs (omega arith) w.rows.1));
              begins = w.begins;
              row = keep_set m.nodes c.last b g (omega arith) w.row;
              once = λ j. let o = w.once j in let d = c.places j in omega arith;
              blank = blank_set m.nodes m.fresh c.last b (omega arith) w.blank;
              within = omega (arith, w.within);
              count = omega (arith, w.count);
            };
            is_front = subst (AreTerms c.front) e c.terms_front;
            is_back = c.terms_back;
          }

  pub added_over : (last : ℕ) (m′ k : Memory) (r next : Option ℕ) → n ≢ 0 → along m.nodes (link q) (n - 1) ≡ Some last → m′ ≡ ended m last → next ≡ (get_or m.nodes last vacant).next → ((a b g : Placed) → Work m′ h (a ∷ b ∷ qs) g → link a ≡ link q → link b ≡ next → Joined m′ h (Some s) a b qs k r) → Built m h qs (cons t us) 1 k r
  added_over last m′ k r next z al em en′ j =
      let c = split z in
      let same : c.last ≡ last = (let e : Some c.last ≡ Some last = sym c.at_last ∙ al in cc) in
      let em′ : m′ ≡ ended m c.last = em ∙ ap (ended m) (sym same) in
      built m m′ h s c.front c.back qs t us k r (ap (λ x. x.free) em) (ap (λ x. length x.nodes) em ∙ length-set m.nodes last (bare m.nodes last)) some (is_term v p s c.front t is stands three c.is_front) c.is_back
      (j c.front c.back g (subst (λ x. Work x h (c.front ∷ c.back ∷ qs) g) (sym em′) c.work) c.begins (c.next ∙ ap (λ i. (get_or m.nodes i vacant).next) same ∙ sym en′))

  pub no_last : n ≢ 0 → along m.nodes (link q) (n - 1) ≡ None → ⊥
  no_last z e = let c = split z in let f : Some c.last ≡ None = sym c.at_last ∙ e in let x : ◌≡◌ {A = ℕ} 0 1 = cc in omega arith

pub ended_long : (m k : Memory) (p : ℕ) → k ≡ ended m p → length m.nodes ≤ 65536 → length k.nodes ≤ 65536
ended_long m k p e few = let x = ap (λ y. length y.nodes) e in let y = length-set m.nodes p (bare m.nodes p) in omega arith
