-- Where a step of a filled linear term is: in what fills one variable, or at a position of the term that is no variable.
use Rattle.std.proofs.Common.{◌≡◌, refl, sym, ap, List, [], ◌∷◌, ℕ, suc, ◌+◌, ◌≤◌, arith}
use Rattle.std.proofs.Math.Option.{some}
use Rattle.terms.specs.Term.{Term, variable, instrument, apply, Terms, nil, cons}
use Rattle.terms.specs.Substitution.{Substitution, fill, fill_all, occurrences, occurrences_in}
use Rattle.terms.specs.Position.{Position, part_at, part_in, put_at, put_in}
use Rattle.terms.specs.Rule.{Rule}
use Rattle.rewriting.specs.Inductive.{Root, Rewrites, at_root, within, RewritesIn, here, further}
use Rattle.rewriting.specs.Unifier.{IsVariable}
use Rattle.rewriting.proofs.Filling.{count_self, updated, updated_same, updated_out, updated_all-out}

pub data Found (rules : List Rule) (s : Substitution) (a : Term) (u : Term) : Type 0 where
  in_substitution : (x : ℕ) (v : Term) → 1 ≤ occurrences x a → Rewrites rules (s x) v → u ≡ fill (updated s x v) a → Found rules s a u
  at_position : (p : Position) (b c : Term) → part_at a p ≡ some b → (IsVariable b → ⊥) → Root rules (fill s b) c → u ≡ put_at (fill s a) p c → Found rules s a u

pub data Founds (rules : List Rule) (s : Substitution) (a : Terms) (u : Terms) : Type 0 where
  in_substitutions : (x : ℕ) (v : Term) → 1 ≤ occurrences_in x a → Rewrites rules (s x) v → u ≡ fill_all (updated s x v) a → Founds rules s a u
  at_positions : (k : ℕ) (p : Position) (b c : Term) → part_in a k p ≡ some b → (IsVariable b → ⊥) → Root rules (fill s b) c → u ≡ put_in (fill_all s a) k p c → Founds rules s a u

module _ {rules : List Rule} {s : Substitution} where
  found_apply : (f : ℕ) {ts us : Terms} → Founds rules s ts us → Found rules s (apply f ts) (apply f us)
  found_apply f (in_substitutions x v h r e) = in_substitution x v h r (ap (apply f) e)
  found_apply f (at_positions k p b c i n r e) = at_position (k ∷ p) b c i n r (ap (apply f) e)

  found_here : (t : Term) (ts : Terms) {u : Term} → ((x : ℕ) → occurrences x t + occurrences_in x ts ≤ 1) → Found rules s t u → Founds rules s (cons t ts) (cons u (fill_all s ts))
  found_here t ts lin (in_substitution x v h r e) =
      let q : fill_all s ts ≡ fill_all (updated s x v) ts = sym (updated_all-out s x v ts (omega (arith, lin x))) in
      in_substitutions x v (omega arith) r (λ i. cons (e i) (q i))
  found_here t ts lin (at_position p b c i n r e) = at_positions 0 p b c i n r (λ i. cons (e i) (fill_all s ts))

  found_there : (t : Term) (ts : Terms) {us : Terms} → ((x : ℕ) → occurrences x t + occurrences_in x ts ≤ 1) → Founds rules s ts us → Founds rules s (cons t ts) (cons (fill s t) us)
  found_there t ts lin (in_substitutions x v h r e) =
      let q : fill s t ≡ fill (updated s x v) t = sym (updated_out s x v t (omega (arith, lin x))) in
      in_substitutions x v (omega arith) r (λ i. cons (q i) (e i))
  found_there t ts lin (at_positions k p b c i n r e) = at_positions (suc k) p b c i n r (λ i. cons (fill s t) (e i))

  mutual
    pub find : (a : Term) → ((x : ℕ) → occurrences x a ≤ 1) → {u : Term} → Rewrites rules (fill s a) u → Found rules s a u
    find (variable x) lin {u} r = in_substitution x u (rw (count_self x) (omega arith)) r (sym (updated_same s x u))
    find (instrument n) lin {u} (at_root r) = at_position [] (instrument n) u refl (λ z. z) r refl
    find (apply f ts) lin {u} (at_root r) = at_position [] (apply f ts) u refl (λ z. z) r refl
    find (apply f ts) lin (within r) = found_apply f (finds ts lin r)

    pub finds : (a : Terms) → ((x : ℕ) → occurrences_in x a ≤ 1) → {us : Terms} → RewritesIn rules (fill_all s a) us → Founds rules s a us
    finds nil lin r = elim r [ ]
    finds (cons t ts) lin (here r) = found_here t ts lin (find t (λ x. omega (arith, lin x)) r)
    finds (cons t ts) lin (further r) = found_there t ts lin (finds ts (λ x. omega (arith, lin x)) r)
