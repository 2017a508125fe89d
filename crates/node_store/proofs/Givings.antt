-- Giving a held term back.
use Rattle.std.proofs.Common.{◌≡◌, ℕ, ◌+◌, ◌*◌, ◌==◌, true, cond, length, get_or, Some, None, sym, refl, ap, ◌∙◌, subst, ⊎_elim, arith}
use Rattle.std.proofs.lemmas.List.{get_or-set_same, length-set}
use Rattle.terms.specs.declared.node.Node.{Node}
use Rattle.terms.specs.Term.{Term, symbols}
use Rattle.terms.specs.Nodes.{vacant}
use Rattle.std.proofs.Math.Logic.{∥∥₁_elim}
use Rattle.terms.specs.Nodes.{node_answers}
use Rattle.terms.specs.Off.{read_off}
use Rattle.terms.proofs.Standing.{one_at_a_place}
use Rattle.traversal.specs.Walks.{most_symbols, StandsWith, Counted}
use Rattle.node_store.specs.Memory.{Memory, given}
use Rattle.node_store.specs.Placed.{at, link, hit, Held, no_term, also, occs, term_at}
use Rattle.node_store.specs.Sound.{Sound, leads, held_at, symbols_of}
use Rattle.node_store.proofs.Placing.{hit_self, keep_set, keep_all_set}
use Rattle.node_store.proofs.Standing.{term_stands, term_size, hit_cases}
use Rattle.node_store.proofs.Tracing.{small}
use Rattle.node_store.proofs.Helds.{Out, out, hit_yes, hit_none, blank_set, held_is}

-- a held term is in the places of the held terms
pub term_occ : (h : Held) (p : ℕ) → occs p h ≡ 0 → term_at h p ≡ None
term_occ no_term p o = refl
term_occ (also i s ks t h) p o = ap (λ c. cond c (Some t) (term_at h p)) (hit_none p i (omega arith)) ∙ term_occ h p (omega arith)

module _ (m : Memory) (s : Sound m) (p : ℕ) (t : Term) (is : term_at s.held p ≡ Some t) where
  w : Out m.nodes s.held p t
  w = out m.nodes s.held p t is s.terms

  gap : occs p w.others ≡ 0
  gap = let x = s.once p in let y = w.places p in let z = hit_self p in omega arith

  pub given_sound : Sound (given m p (symbols t))
  given_sound =
      let n : Node = record { symbol = None; first = (get_or m.nodes p vacant).first; next = m.freed } in
      let long = length-set m.nodes p n in
      let o = s.once p in
      let x = w.places p in
      let y = hit_self p in
      let many = term_size w.symbol w.under t w.is in
      let all = w.count in
      let few = small (length m.nodes) s.few in
      let e : n ≡ record { symbol = None; first = link w.under; next = link s.gone } = λ i. record { symbol = None; first = (w.node i).first; next = sym s.begins i } in
      record {
        held = w.others;
        gone = at p None w.under s.gone;
        terms = keep_all_set m.nodes p n w.others gap w.terms;
        begins = refl;
        row = (omega (arith, w.within), get_or-set_same m.nodes p n vacant w.within ∙ e, keep_set m.nodes p n w.under (omega arith) w.row, keep_set m.nodes p n s.gone (omega arith) s.row);
        once = λ j. let a = s.once j in let b = w.places j in omega arith;
        blank = blank_set m.nodes m.fresh p n (omega arith) s.blank;
        within = omega (arith, s.within);
        count = omega (arith, s.count, s.whole);
        whole = omega (arith, s.whole);
        few = omega (arith, s.few);
      }

  pub given_held : (q : ℕ) → held_at (given m p (symbols t)).nodes q ≡ cond (q == p) None (held_at m.nodes q)
  unfolding given_sound w
  given_held q = held_is (given m p (symbols t)) given_sound q ∙ ⊎_elim here there (hit_cases q p)
    where
      here : q ≡ p → term_at w.others q ≡ cond (q == p) None (held_at m.nodes q)
      here e = term_occ w.others q (ap (λ k. occs k w.others) e ∙ gap) ∙ sym (ap (λ c. cond c None (held_at m.nodes q)) (hit_yes q p e))

      there : hit q p ≡ 0 → term_at w.others q ≡ cond (q == p) None (held_at m.nodes q)
      there z = sym (w.same q z) ∙ sym (held_is m s q) ∙ sym (ap (λ c. cond c None (held_at m.nodes q)) (hit_none q p z))

-- at a root a term is held
pub record Rooted (m : Memory) (s : Sound m) (p : ℕ) : Type 0 where
  pub term : Term
  pub is : term_at s.held p ≡ Some term
  pub stands : StandsWith (node_answers m.nodes) p term

pub rooted : (m : Memory) (s : Sound m) (p : ℕ) → true ≡ leads (get_or m.nodes p vacant).next p → Rooted m s p
rooted m s p e =
    let t = read_off (2 * most_symbols) (node_answers m.nodes) p in
    let is : term_at s.held p ≡ Some t = sym (held_is m s p) ∙ sym (ap (λ c. cond c (Some t) None) e) in
    let w = out m.nodes s.held p t is s.terms in
    let few = term_size w.symbol w.under t w.is in
    let all = w.count in
    record { term = t; is = is; stands = (term_stands m.nodes p w.symbol w.under (Some p) t w.node w.row w.is, omega (arith, s.whole, s.few)) }

pub no_root : (m : Memory) → ∥ Sound m ∥₁ → (p : ℕ) → true ≡ leads (get_or m.nodes p vacant).next p → Counted (node_answers m.nodes) p None → ⊥
no_root m s p e none = ∥∥₁_elim s (λ (x y : ⊥). absurd x) (λ s. let r = rooted m s p e in none r.term r.stands)

-- all that giving a counted term does
pub record Gave (m : Memory) (p n : ℕ) : Type 0 where
  pub sound : Sound (given m p n)
  pub held : (q : ℕ) → held_at (given m p n).nodes q ≡ cond (q == p) None (held_at m.nodes q)
  pub free : (given m p n).free ≡ m.free + symbols_of (held_at m.nodes p)

pub gave : (m : Memory) (s : Sound m) (p n : ℕ) → true ≡ leads (get_or m.nodes p vacant).next p → Counted (node_answers m.nodes) p (Some n) → Gave m p n
gave m s p n e c =
    let r = rooted m s p e in
    let one = one_at_a_place (node_answers m.nodes) p c.0 r.term c.1.0 r.stands.0 in
    let many : symbols r.term ≡ n = sym (ap symbols one) ∙ c.2 in
    let x = given_sound m s p r.term r.is in
    let long = length-set m.nodes p (record { symbol = None; first = (get_or m.nodes p vacant).first; next = m.freed }) in
    let few = small (length m.nodes) s.few in
    let now = x.whole in
    let whole = s.whole in
    record {
      sound = subst (λ k. Sound (given m p k)) many x;
      held = subst (λ k. (q : ℕ) → held_at (given m p k).nodes q ≡ cond (q == p) None (held_at m.nodes q)) many (given_held m s p r.term r.is);
      free = (let z : (given m p n).free ≡ m.free + n = omega (arith, now) in z) ∙ ap (λ k. m.free + k) (sym many) ∙ sym (ap (λ o. m.free + symbols_of o) (held_is m s p ∙ r.is));
    }

pub held_stands : (m : Memory) (s : Sound m) (p : ℕ) (t : Term) → held_at m.nodes p ≡ Some t → StandsWith (node_answers m.nodes) p t
held_stands m s p t e =
    let is : term_at s.held p ≡ Some t = sym (held_is m s p) ∙ e in
    let w = out m.nodes s.held p t is s.terms in
    let few = term_size w.symbol w.under t w.is in
    let all = w.count in
    (term_stands m.nodes p w.symbol w.under (Some p) t w.node w.row w.is, omega (arith, s.whole, s.few))
