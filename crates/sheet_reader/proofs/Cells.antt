-- The cells of a grid of values, and a weighing that has them.
use Rattle.std.proofs.Common.{◌≡◌, ℕ, zero, suc, ◌+◌, ◌%◌, Bool, true, false, cond, ◌&&◌, eqb, List, [], ◌∷◌, ◌++◌, length, get_or, sym, refl, ap, ◌∙◌, arith}
use Rattle.std.proofs.lemmas.Bool.Decides.{nat_tests}
use Rattle.std.proofs.lemmas.List.{get_or_past}
use Rattle.std.proofs.Math.Dec.{eqb-suc-zero, eqb-zero-suc, eqb-suc-suc}
use Rattle.std.proofs.Math.ListN.{get_or-append}
use Rattle.sheet_reading.specs.Values.{Value, Grid, neutral_in, cell}
use Rattle.weighing.specs.declared.Weighing.{Weighing}
use Rattle.weighing.specs.Weighing.{Missing, Puts}
use Rattle.sheet_reader.specs.Weighings.{Weighs}

-- an empty last line is as none
row_opened : (g : Grid) (l : ℕ) → get_or (g ++ ([] ∷ [])) l [] ≡ get_or g l []
row_opened [] zero = refl
row_opened [] (suc l) = refl
row_opened (vs ∷ g) zero = refl
row_opened (vs ∷ g) (suc l) = row_opened g l

-- a list with one item more
pushed : {A : Type 0} (xs : List A) (x d : A) (i : ℕ) → get_or (xs ++ (x ∷ [])) i d ≡ cond (eqb i (length xs)) x (get_or xs i d)
pushed [] x d zero = refl
pushed [] x d (suc i) = ap (λ c. cond c x d) (sym (eqb-suc-zero i))
pushed (y ∷ xs) x d zero = ap (λ c. cond c x y) (sym (eqb-zero-suc (length xs)))
pushed (y ∷ xs) x d (suc i) = pushed xs x d i ∙ ap (λ c. cond c x (get_or xs i d)) (sym (eqb-suc-suc i (length xs)))

-- the first choice counts
cond_again : {A : Type 0} (c : Bool) (x y z : A) → cond c y z ≡ cond c y (cond c x z)
cond_again true x y z = refl
cond_again false x y z = refl

-- a list with another last item
another : {A : Type 0} (xs : List A) (x y d : A) (i : ℕ) → get_or (xs ++ (y ∷ [])) i d ≡ cond (eqb i (length xs)) y (get_or (xs ++ (x ∷ [])) i d)
another xs x y d i = pushed xs y d i ∙ cond_again (eqb i (length xs)) x y (get_or xs i d) ∙ ap (cond (eqb i (length xs)) y) (sym (pushed xs x d i))

put_in : (c : Bool) (row vs : List Value) (v d : Value) (f : ℕ) → (c ≡ true → row ≡ vs) → get_or (cond c (vs ++ (v ∷ [])) row) f d ≡ cond (c && eqb f (length vs)) v (get_or row f d)
put_in true row vs v d f h = pushed vs v d f ∙ ap (λ r. cond (eqb f (length vs)) v (get_or r f d)) (sym (h refl))
put_in false row vs v d f h = refl

-- a value put at the end of the last line
cell_put : (g : Grid) (vs : List Value) (v : Value) (l f : ℕ) → cell (g ++ ((vs ++ (v ∷ [])) ∷ [])) l f ≡ cond (eqb l (length g) && eqb f (length vs)) v (cell (g ++ (vs ∷ [])) l f)
cell_put g vs v l f =
    let row = get_or (g ++ (vs ∷ [])) l [] in
    ap (λ r. get_or r f (neutral_in (l % 4))) (another g vs (vs ++ (v ∷ [])) [] l)
    ∙ put_in (eqb l (length g)) row vs v (neutral_in (l % 4)) f (λ e. another g vs vs [] l ∙ ap (λ c. cond c vs row) e)

-- the cells that a weighing has

pub weighs_put : (w after : Weighing) (g : Grid) (vs : List Value) (v : Value) (from line : ℕ) → Weighs w (g ++ (vs ∷ [])) from → length g ≡ from + line → Puts w line (length vs) v after → Weighs after (g ++ ((vs ++ (v ∷ [])) ∷ [])) from
weighs_put w after g vs v from line h n p l f k =
    let same : eqb l line ≡ eqb (from + l) (length g) = grind (arith, nat_tests) in
    p l f k
    ∙ ap (cond (eqb l line && eqb f (length vs)) v) (h l f k)
    ∙ ap (λ c. cond (c && eqb f (length vs)) v (cell (g ++ (vs ∷ [])) (from + l) f)) same
    ∙ sym (cell_put g vs v (from + l) f)

-- an empty line more
pub weighs_opened : (w : Weighing) (g : Grid) (from : ℕ) → Weighs w g from → Weighs w (g ++ ([] ∷ [])) from
weighs_opened w g from h l f k = h l f k ∙ ap (λ r. get_or r f (neutral_in ((from + l) % 4))) (sym (row_opened g (from + l)))

pub weighs_closed : (w : Weighing) (g : Grid) (from : ℕ) → Weighs w (g ++ ([] ∷ [])) from → Weighs w g from
weighs_closed w g from h l f k = h l f k ∙ ap (λ r. get_or r f (neutral_in ((from + l) % 4))) (row_opened g (from + l))

-- further lines behind its own
pub weighs_on : (w : Weighing) (g more : Grid) (from : ℕ) → length g ≡ from + 4 → Weighs w g from → Weighs w (g ++ more) from
weighs_on w g more from n h l f k = h l f k ∙ ap (λ r. get_or r f (neutral_in ((from + l) % 4))) (sym (get_or-append g more [] (from + l) (omega arith)))

-- none of its lines
pub weighs_missing : (w : Weighing) (g : Grid) (from : ℕ) → Missing w → length g ≡ from → from % 4 ≡ 0 → Weighs w g from
weighs_missing w g from h n a l f k =
    let place : l ≡ (from + l) % 4 = omega arith in
    h l f k ∙ ap neutral_in place ∙ ap (λ r. get_or r f (neutral_in ((from + l) % 4))) (sym (get_or_past g (from + l) [] (omega arith)))
