-- Values in range: those of a line, its first ones, and whole lines.
use Rattle.std.proofs.Common.{◌≡◌, ℕ, zero, suc, ◌+◌, ◌-◌, ◌%◌, ◌<◌, ◌≤◌, ltb, ◌⊎◌, List, [], ◌∷◌, ◌++◌, length, Some, None, Option, refl, ap, subst, inl, inr, ⊎_elim, arith, length-append}
use Rattle.std.proofs.lemmas.Bool.{cond_both, cases_lt}
use Rattle.terms.specs.Signature.{Sig, op_of}
use Rattle.sheet_reading.specs.Values.{Value, Grid, range_in, range_of, ValueIn, LineIn, GridIn}

-- no range goes past 100

abbrev pub Small : Option (ℕ × ℕ) → Type 0
Small None = Unit {0}
Small (Some r) = r.1 ≤ 100

pub range_small : (n arity : ℕ) → Small (range_in n arity)
range_small zero arity = omega arith
range_small (suc n) arity = cond_both (ltb n arity) (Some (1, 4)) None Small (λ _. omega arith) (λ _. tt)

-- the first values of a line are in range
abbrev pub LinePart : ℕ → Sig → List Value → Type 0
LinePart line sig [] = Unit {0}
LinePart line [] (v ∷ vs) = ⊥
LinePart line (o ∷ os) (v ∷ vs) = ValueIn (range_of line o.arity) v × LinePart line os vs

pub part_push : (n : ℕ) (sig : Sig) (vs : List Value) (v : Value) → LinePart n sig vs → length vs < length sig → ValueIn (range_of n (op_of sig (length vs)).arity) v → LinePart n sig (vs ++ (v ∷ []))
part_push n [] [] v h l i = omega arith
part_push n [] (w ∷ vs) v h l i = h
part_push n (o ∷ os) [] v h l i = (i, tt)
part_push n (o ∷ os) (w ∷ vs) v h l i = (h.0, part_push n os vs v h.1 (omega arith) i)

pub part_full : (n : ℕ) (sig : Sig) (vs : List Value) → LinePart n sig vs → length sig ≤ length vs → LineIn n sig vs
part_full n [] [] h l = tt
part_full n (o ∷ os) [] h l = omega arith
part_full n [] (v ∷ vs) h l = h
part_full n (o ∷ os) (v ∷ vs) h l = (h.0, part_full n os vs h.1 (omega arith))

pub grid_joined : (n : ℕ) (sig : Sig) (g h : Grid) → GridIn n sig g → GridIn (n + length g) sig h → GridIn n sig (g ++ h)
grid_joined n sig [] h a b = subst (λ x. GridIn x sig h) (omega arith) b
grid_joined n sig (vs ∷ g) h a b = (a.0, grid_joined (suc n) sig g h a.1 (subst (λ x. GridIn x sig h) (omega arith) b))

-- values at their least

abbrev pub least : Option (ℕ × ℕ) → Value
least None = None
least (Some r) = Some r.0

pub least_in : (n arity : ℕ) → ValueIn (range_in n arity) (least (range_in n arity))
least_in zero arity = (omega arith, omega arith)
least_in (suc n) arity = cond_both (ltb n arity) (Some (1, 4)) None (λ o. ValueIn o (least o)) (λ _. (omega arith, omega arith)) (λ _. tt)

-- a line from its first values on
pub completed : (n : ℕ) (sig : Sig) (vs : List Value) → LinePart n sig vs → (ws : List Value) × LineIn n sig (vs ++ ws) × (length vs + length ws ≡ length sig)
completed n [] [] h = ([], tt, omega arith)
completed n [] (v ∷ vs) h = absurd h
completed n (o ∷ os) [] h = let (ws, a, b) = completed n os [] tt in (least (range_of n o.arity) ∷ ws, (least_in (n % 4) o.arity, a), omega arith)
completed n (o ∷ os) (v ∷ vs) h = let (ws, a, b) = completed n os vs h.1 in (ws, (h.0, a), omega arith)

-- so many lines
least_lines : (sig : Sig) (c n : ℕ) → (g : Grid) × GridIn n sig g × (length g ≡ c)
least_lines sig zero n = ([], tt, refl)
least_lines sig (suc c) n =
    let (vs, a, b) = completed n sig [] tt in
    let (g, h, l) = least_lines sig c (suc n) in
    (vs ∷ g, (a, h), ap suc l)

-- one weighing or two
abbrev pub Full : Grid → Type 0
Full g = (length g ≡ 4) ⊎ (length g ≡ 8)

pub full_grid : (sig : Sig) (g : Grid) → GridIn 0 sig g → length g ≤ 8 → (h : Grid) × GridIn 0 sig (g ++ h) × Full (g ++ h)
full_grid sig g a l = ⊎_elim
    (λ j. let (h, b, c) = least_lines sig (8 - length g) (length g) in
    (h, grid_joined 0 sig g h a (subst (λ x. GridIn x sig h) (omega arith) b), inr (omega (arith, length-append g h))))
    (λ j. let (h, b, c) = least_lines sig (4 - length g) (length g) in
    (h, grid_joined 0 sig g h a (subst (λ x. GridIn x sig h) (omega arith) b), inl (omega (arith, length-append g h))))
    (cases_lt 4 (length g))
