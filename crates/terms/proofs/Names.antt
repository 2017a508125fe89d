-- A declared name is found under its operator's number.
use Rattle.std.proofs.Common.{◌≡◌, ℕ, zero, suc, ◌+◌, ◌<◌, List, [], ◌∷◌, length, Some, None, Option, refl, sym, ap, ◌∙◌, subst, inl, inr, arith}
use Rattle.std.specs.Str.{bytes_eq}
use Rattle.std.proofs.lemmas.Bool.{cond_both, cond-true, cond-false, cases_Bool}
use Rattle.std.proofs.lemmas.Slice.Eq.{bytes_eq-Decides}
use Rattle.terms.specs.Signature.{Op, Sig, op_of, Declared, found_from, found}

-- what a search from i on gives
abbrev Found : ℕ → Sig → List ℕ → Option ℕ → Type 0
Found i sig s None = Unit {0}
Found i sig s (Some f) = (j : ℕ) × (f ≡ i + j) × (j < length sig) × ((op_of sig j).name ≡ s)

found_later : (i : ℕ) (o : Op) (sig : Sig) (s : List ℕ) (r : Option ℕ) → Found (suc i) sig s r → Found i (o ∷ sig) s r
found_later i o sig s None h = tt
found_later i o sig s (Some f) h = (suc h.0, omega arith, omega arith, h.3)

found_from_is : (i : ℕ) (sig : Sig) (s : List ℕ) → Found i sig s (found_from i sig s)
found_from_is i [] s = tt
found_from_is i (o ∷ sig) s = cond_both (bytes_eq o.name s) (Some i) (found_from (suc i) sig s) (Found i (o ∷ sig) s)
    (λ e. (0, omega arith, omega arith, (bytes_eq-Decides o.name s).0 e))
    (λ _. found_later i o sig s _ (found_from_is (suc i) sig s))

-- what is found has the name
pub found_is : (sig : Sig) (s : List ℕ) (f : ℕ) → found sig s ≡ Some f → (f < length sig) × ((op_of sig f).name ≡ s)
found_is sig s f e =
    let (j, q, l, n) = subst (Found 0 sig s) e (found_from_is 0 sig s) in
    let same : j ≡ f = omega arith in
    subst (λ x. (x < length sig) × ((op_of sig x).name ≡ s)) same (l, n)

found_at : (i : ℕ) (sig : Sig) (s : List ℕ) (f : ℕ) → f < length sig → (op_of sig f).name ≡ s → ((g : ℕ) → g < length sig → (op_of sig g).name ≡ s → g ≡ f) → found_from i sig s ≡ Some (i + f)
found_at i [] s f h e u = absurd (omega arith)
found_at i (o ∷ sig) s zero h e u = cond-true _ _ _ ((bytes_eq-Decides o.name s).1 e) ∙ ap Some (omega arith)
found_at i (o ∷ sig) s (suc f) h e u =
    let ih = found_at (suc i) sig s f (omega arith) e (λ g l q. omega (arith, u (suc g) (omega arith) q)) in
    elim (cases_Bool (bytes_eq o.name s)) as (λ _. found_from i (o ∷ sig) s ≡ Some (i + suc f)) [
      | inl p ↦ absurd (omega (arith, u 0 (omega arith) ((bytes_eq-Decides o.name s).0 p)))
      | inr p ↦ cond-false _ _ _ p ∙ ih ∙ ap Some (omega arith)
    ]

-- an operator is found by its name
pub found_name : {sig : Sig} → Declared sig → (f : ℕ) → f < length sig → found sig (op_of sig f).name ≡ Some f
found_name {sig} good f h = found_at 0 sig (op_of sig f).name f h refl (λ g l q. good.are_apart g f (l, h, q)) ∙ ap Some (omega arith)

-- and that is what the search answers
pub found_there : (sig : Sig) (s : List ℕ) (f : ℕ) → Declared sig → f < length sig → (op_of sig f).name ≡ s → Some f ≡ found sig s
found_there sig s f good h e = subst (λ x. Some f ≡ found sig x) e (sym (found_name good f h))
