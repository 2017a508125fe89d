-- Coefficients that are added up one after the other.
use Rattle.std.proofs.Common.{◌≡◌, ℕ, ◌+◌, ◌*◌, ◌<◌, ◌≤◌, List, length, get_or, set, inl, inr, refl, ap, ◌∙◌, arith}
use Rattle.std.proofs.lemmas.Bool.{cases_eq}
use Rattle.std.proofs.lemmas.List.{get_or-set_other}
use Rattle.std.proofs.lemmas.Grind.{get_or-set_at}

module _ (now before other : List ℕ) (x f v : ℕ) (at : x < length now) (is : v ≡ get_or now x 0 + f * get_or other x 0) (left : (y : ℕ) → x ≤ y → get_or now y 0 ≡ get_or before y 0) where
  pub summed_done : ((y : ℕ) → y < x → get_or now y 0 ≡ get_or before y 0 + f * get_or other y 0) → (y : ℕ) → y < x + 1 → get_or (set now x v) y 0 ≡ get_or before y 0 + f * get_or other y 0
  summed_done done y h = elim (cases_eq y x) [
    | inl e ↦ rw e (get_or-set_at now x x v 0 refl at ∙ is ∙ ap (λ z. z + f * get_or other x 0) (left x (omega arith)))
    | inr ne ↦ get_or-set_other now x y v 0 ne ∙ done y (omega (arith, ne))
  ]

  pub summed_left : (y : ℕ) → x + 1 ≤ y → get_or (set now x v) y 0 ≡ get_or before y 0
  summed_left y h = get_or-set_other now x y v 0 (λ e. omega (arith, e)) ∙ left y (omega arith)
