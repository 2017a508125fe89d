-- The values of rows.
use Rattle.std.proofs.Common.{◌≡◌, ℕ, zero, suc, ◌<◌, ◌≤◌, Bool, true, false, cond, ◌&&◌, eqb, List, map, length, get_or, set, replicate, Some, None, Option, sym, refl, ap, ◌∙◌, subst, arith}
use Rattle.std.proofs.lemmas.Grind.{common_steps}
use Rattle.std.proofs.lemmas.List.{length-map, get_or-map, set-get_or, map-set}
use Rattle.sheet_reading.specs.Values.{Value, neutral_in}
use Rattle.weighing.specs.Factor.{Factor}
use Rattle.weighing.specs.Weighing.{written, entry_of}
use Rattle.weighing.specs.declared.Row.{Row}
use Rattle.weighing.specs.declared.bounded.Bounded.{Bounded}

abbrev values_in : List Row → ℕ → List Value
values_in rows line = map (λ (r : Row). entry_of r line) rows

-- rows that are all neutral
pub values_neutral : (row : Row) → ((line : ℕ) → entry_of row line ≡ neutral_in line) → (n line f : ℕ) → get_or (values_in (replicate n row) line) f (neutral_in line) ≡ neutral_in line
values_neutral row h zero line f = refl
values_neutral row h (suc n) line zero = h line
values_neutral row h (suc n) line (suc f) = values_neutral row h n line f

-- one value is another
put_one : (vs : List Value) (i g : ℕ) (v d : Value) → i < length vs → get_or (set vs i v) g d ≡ cond (eqb g i) v (get_or vs g d)
put_one vs i g v d h = grind (arith, common_steps)

-- or stays the same
put_if : (b : Bool) (vs : List Value) (i g : ℕ) (v x d : Value) → i < length vs → x ≡ cond b v (get_or vs i d) → get_or (set vs i x) g d ≡ cond (b && eqb g i) v (get_or vs g d)
put_if true vs i g v x d h e = put_one vs i g x d h ∙ ap (λ y. cond (eqb g i) y (get_or vs g d)) e
put_if false vs i g v x d h e = ap (λ y. get_or (set vs i y) g d) e ∙ ap (λ ys. get_or ys g d) (set-get_or vs i d)

-- one value of one row is another
pub values_put : (rows : List Row) (i f : ℕ) (row d new : Row) (line : ℕ) (v : Value) → i ≡ f → i < length rows → row ≡ get_or rows i d → ((l : ℕ) → entry_of new l ≡ cond (eqb l line) v (entry_of row l)) → (l g : ℕ) → get_or (values_in (set rows i new) l) g (neutral_in l) ≡ cond (eqb l line && eqb g f) v (get_or (values_in rows l) g (neutral_in l))
values_put rows i f row d new line v at h is e l g =
    let entry : Row → Value = λ r. entry_of r l in
    let same : entry row ≡ get_or (values_in rows l) i (neutral_in l) = ap entry is ∙ sym (get_or-map entry rows i d (neutral_in l) h) in
    ap (λ vs. get_or vs g (neutral_in l)) (map-set entry rows i new)
    ∙ put_if (eqb l line) (values_in rows l) i g v (entry new) (neutral_in l) (omega (arith, length-map rows entry)) (e l ∙ ap (cond (eqb l line) v) same)
    ∙ ap (λ k. cond (eqb l line && eqb g k) v (get_or (values_in rows l) g (neutral_in l))) at

-- the values of rows of which one is given another base
pub values_rebased : (rows : List Row) (i f : ℕ) (row new : Row) (b : ℕ) → i ≡ f → i < length rows → row ≡ get_or rows i row → new.base.value ≡ b → new.factors ≡ row.factors → (l g : ℕ) → get_or (values_in (set rows i new) l) g (neutral_in l) ≡ cond (eqb l 0 && eqb g f) (Some b) (get_or (values_in rows l) g (neutral_in l))
values_rebased rows i f row new b at h is e same = values_put rows i f row row new 0 (Some b) at h is put where
  put : (l : ℕ) → entry_of new l ≡ cond (eqb l 0) (Some b) (entry_of row l)
  put zero = ap Some e
  put (suc n) = grind (arith, common_steps)

-- and of which one is given another factor
pub values_refactored : (rows : List Row) (i f : ℕ) (row new : Row) (n : ℕ) (factor : _) (v : Value) → i ≡ f → i < length rows → row ≡ get_or rows i row → n < length row.factors → written factor ≡ v → new.base ≡ row.base → new.factors ≡ set row.factors n factor → (l g : ℕ) → get_or (values_in (set rows i new) l) g (neutral_in l) ≡ cond (eqb l (suc n) && eqb g f) v (get_or (values_in rows l) g (neutral_in l))
values_refactored rows i f row new n factor v at h is within e base factors = values_put rows i f row row new (suc n) v at h is put where
  put : (l : ℕ) → entry_of new l ≡ cond (eqb l (suc n)) v (entry_of row l)
  put zero = grind (arith, common_steps)
  put (suc m) =
      ap (λ fs. get_or (map written fs) m (Some 1)) factors
      ∙ ap (λ vs. get_or vs m (Some 1)) (map-set written row.factors n factor ∙ ap (set (map written row.factors) n) e)
      ∙ put_one (map written row.factors) n m v (Some 1) (omega (arith, length-map row.factors written)) ∙ grind (arith, common_steps)

-- what is written of a factor is one
pub factor_written : {l m : ℕ} (factor : Option (Bounded l m)) (v : Value) → 1 ≤ l → m ≤ 4 → written factor ≡ v → Factor v
factor_written None v least most e = subst Factor e tt
factor_written (Some k) v least most e = let low = k.least in let high = k.most in subst Factor e (omega arith, omega arith)
