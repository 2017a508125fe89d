-- The unifier of two terms is most general.
use Rattle.std.proofs.Common.{◌≡◌, refl, sym, ◌∙◌, ap, [], ◌∷◌, ◌++◌, Bool, true, false, cond, ℕ, ◌==◌, arith, eqb-true, eq-eqb}
use Rattle.std.proofs.Math.Option.{Option, some}
use Rattle.terms.specs.Term.{Term, variable, instrument, apply, Terms, nil, cons}
use Rattle.terms.specs.Substitution.{Substitution, fill, fill_all}
use Rattle.rewriting.specs.Bindings.{Bindings, bound}
use Rattle.rewriting.specs.Unifier.{unifier, unifier_all}
use Rattle.rewriting.proofs.Filling.{apply_inj, head_inj, tail_inj}

-- a substitution gives each bound variable what its binding gives, filled
abbrev pub Holds : Substitution → Bindings → Type 0
Holds s [] = Unit {0}
Holds s (b ∷ m) = (s b.0 ≡ fill s b.1) × Holds s m

pub holds_append : (s : Substitution) (m n : Bindings) → Holds s m → Holds s n → Holds s (m ++ n)
holds_append s [] n h k = k
holds_append s (b ∷ m) n h k = (h.0, holds_append s m n h.1 k)

-- a substitution that holds goes through the bindings
pub bound_holds : (s : Substitution) (m : Bindings) → Holds s m → (x : ℕ) → fill s (bound m x) ≡ s x
bound_holds s [] h x = refl
bound_holds s (b ∷ m) h x = go (bound_holds s m h.1 x) (x == b.0) refl
  where
    go : fill s (bound m x) ≡ s x → (t : Bool) → x == b.0 ≡ t → fill s (cond t b.1 (bound m x)) ≡ s x
    go rest true e = sym h.0 ∙ ap s (sym (eqb-true x b.0 e))
    go rest false e = rest

-- every substitution that makes two terms equal goes through their unifier
abbrev pub Unified : Substitution → Option Bindings → Type 0
Unified s o = (m : Bindings) × (o ≡ some m) × Holds s m

mutual
  pub unifier_general : (s : Substitution) (a b : Term) → fill s a ≡ fill s b → Unified s (unifier a b)
  unifier_general s (variable x) b e = ((x, b) ∷ [], refl, (e, tt))
  unifier_general s (instrument n) (variable y) e = ((y, instrument n) ∷ [], refl, (sym e, tt))
  unifier_general s (instrument n) (instrument k) e = let q : n ≡ k = cc in ([], rw (eq-eqb n k q), tt)
  unifier_general s (instrument n) (apply g bs) e = let z : ◌≡◌ {A = ℕ} 0 1 = cc in absurd (omega arith)
  unifier_general s (apply f ts) (variable y) e = ((y, apply f ts) ∷ [], refl, (sym e, tt))
  unifier_general s (apply f ts) (instrument k) e = let z : ◌≡◌ {A = ℕ} 0 1 = cc in absurd (omega arith)
  unifier_general s (apply f ts) (apply g us) e =
      let q : f ≡ g = cc in
      let (m, k, h) = unifier_all_general s ts us (apply_inj e) in
      (m, rw (eq-eqb f g q) k, h)

  pub unifier_all_general : (s : Substitution) (a b : Terms) → fill_all s a ≡ fill_all s b → Unified s (unifier_all a b)
  unifier_all_general s nil nil e = ([], refl, tt)
  unifier_all_general s nil (cons b bs) e = let z : ◌≡◌ {A = ℕ} 0 1 = cc in absurd (omega arith)
  unifier_all_general s (cons a ts) nil e = let z : ◌≡◌ {A = ℕ} 0 1 = cc in absurd (omega arith)
  unifier_all_general s (cons a ts) (cons b bs) e =
      let (m, k, h) = unifier_general s a b (head_inj e) in
      let (n, j, i) = unifier_all_general s ts bs (tail_inj e) in
      (m ++ n, rw (k, j), holds_append s m n h i)
