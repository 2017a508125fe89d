-- Holding a term whose nodes are made.
use Rattle.std.proofs.Common.{◌≡◌, ℕ, ◌+◌, ◌≤◌, ◌==◌, cond, List, [], ◌∷◌, length, get_or, Some, None, Option, sym, refl, ap, ◌∙◌, subst, arith}
use Rattle.std.proofs.lemmas.List.{get_or-set_same, length-set}
use Rattle.terms.specs.declared.node.Node.{Node}
use Rattle.terms.specs.declared.symbol.Symbol.{Symbol}
use Rattle.terms.specs.Term.{Term, nil, cons, symbols}
use Rattle.terms.specs.Nodes.{vacant}
use Rattle.traversal.specs.Walks.{most_symbols}
use Rattle.node_store.specs.Memory.{Memory}
use Rattle.node_store.specs.Placed.{Placed, none, at, link, IsTerm, AreTerms, Held, also, occs}
use Rattle.node_store.specs.Sound.{Sound}
use Rattle.node_store.specs.Work.{Work}
use Rattle.node_store.specs.Loading.{Built, marked, NowHeld, Fetched}
use Rattle.node_store.proofs.Placing.{hit_self, keep_set, keep_all_set}
use Rattle.node_store.proofs.Standing.{term_size}
use Rattle.node_store.proofs.Helds.{blank_set, held_is}
use Rattle.node_store.proofs.Givings.{term_occ}
use Rattle.node_store.proofs.Tracing.{small}

pub at_work : (m : Memory) (s : Sound m) → Work m s.held [] s.gone
at_work m s = record { terms = s.terms; rows = tt; begins = s.begins; row = s.row; once = λ j. let o = s.once j in omega arith; blank = s.blank; within = s.within; count = s.count }

module _ (m : Memory) (s : Sound m) (t : Term) (k : Memory) (i : ℕ) (x : Option Symbol) (ks g : Placed) (w : Work k s.held (at i x ks none ∷ []) g) (is : IsTerm x ks t) (free : k.free + symbols t ≡ m.free) (long : length k.nodes ≡ length m.nodes) where
  gap : occs i s.held ≡ 0
  gap = let o = w.once i in let y = hit_self i in omega arith

  pub held_sound : Sound (marked k i)
  held_sound =
      let n : Node = record { symbol = (get_or k.nodes i vacant).symbol; first = (get_or k.nodes i vacant).first; next = Some i } in
      let l = length-set k.nodes i n in
      let o = w.once i in
      let y = hit_self i in
      let many = term_size x ks t is in
      record {
        held = also i x ks t s.held;
        gone = g;
        terms = (
          omega (arith, w.rows.0.0),
          get_or-set_same k.nodes i n vacant w.rows.0.0 ∙ (λ d. record { symbol = (w.rows.0.1 d).symbol; first = (w.rows.0.1 d).first; next = Some i }),
          keep_set k.nodes i n ks (omega arith) w.rows.0.2,
          is,
          keep_all_set k.nodes i n s.held gap w.terms,
        );
        begins = w.begins;
        row = keep_set k.nodes i n g (omega arith) w.row;
        once = λ j. let o = w.once j in omega arith;
        blank = blank_set k.nodes k.fresh i n (omega arith) w.blank;
        within = omega (arith, w.within);
        count = omega (arith, w.count);
        whole = omega (arith, s.whole);
        few = omega (arith, s.few);
      }

  pub now_held : NowHeld m t (marked k i) i
  unfolding held_sound
  now_held = record {
    new = held_is m s i ∙ term_occ s.held i gap;
    held = λ q. held_is (marked k i) held_sound q ∙ ap (cond (q == i) (Some t)) (sym (held_is m s q));
    free = free;
  }

pub fetched : (m k k′ : Memory) (s : Sound m) (t : Term) (n : ℕ) (r : ℕ) → k′ ≡ marked k r → symbols t ≡ n → Built m s.held [] (cons t nil) n k (Some r) → Fetched m t k′ (Some r)
fetched m k k′ s t n r e z b = go b.new b.begins b.work b.terms
  where
    end : (q : Placed) → AreTerms q nil → none ≡ q
    end none a = refl
    end (at i x ks us) a = absurd a

    go : (q : Placed) → link q ≡ Some r → Work k s.held (q ∷ []) b.gone → AreTerms q (cons t nil) → Fetched m t k′ (Some r)
    go none l w a = absurd a
    go (at i x ks us) l w a =
        let v : i ≡ r = cc in
        let w′ : Work k s.held (at i x ks none ∷ []) b.gone = subst (λ u. Work k s.held (at i x ks u ∷ []) b.gone) (sym (end us a.1)) w in
        let f : k.free + symbols t ≡ m.free = ap (λ c. k.free + c) z ∙ b.free in
        subst (λ y. Fetched m t y (Some r)) (sym e) (subst (λ y. Fetched m t (marked k y) (Some y)) v (held_sound m s t k i x ks b.gone w′ a.0 f b.long, now_held m s t k i x ks b.gone w′ a.0 f b.long))

pub not_built : (m k : Memory) (h : Held) (qs : List Placed) (t : Term) (n : ℕ) → Built m h qs (cons t nil) n k None → ⊥
not_built m k h qs t n b = go b.new b.begins b.terms
  where
    go : (q : Placed) → link q ≡ None → AreTerms q (cons t nil) → ⊥
    go none l a = a
    go (at i x ks us) l a = let v : ◌≡◌ {A = ℕ} 0 1 = cc in omega arith

pub few_nodes : (m : Memory) → Sound m → length m.nodes ≤ 65536
few_nodes m s = let x = small (length m.nodes) s.few in omega arith

pub few_symbols : (m : Memory) → Sound m → (n : ℕ) → n ≤ m.free → n ≤ most_symbols
few_symbols m s n f = omega (arith, s.whole, s.few)

pub fetched_of : (m k k′ : Memory) (s : Sound m) (t : Term) (n a r : ℕ) → a ≡ n → k′ ≡ marked k r → symbols t ≡ n → Built m s.held [] (cons t nil) a k (Some r) → Fetched m t k′ (Some r)
fetched_of m k k′ s t n a r e z y b = fetched m k k′ s t n r z y (subst (λ i. Built m s.held [] (cons t nil) i k (Some r)) e b)

pub fetched_sound : (m k : Memory) (t : Term) (r : Option ℕ) → Fetched m t k r → Sound k
fetched_sound m k t None f = absurd f
fetched_sound m k t (Some p) f = f.0
