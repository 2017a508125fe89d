-- The rows that a left side's variables stand for: where they are, and which of them the right side needs.
use Rattle.std.proofs.Common.{◌≡◌, ℕ, zero, suc, ◌+◌, ◌≤◌, ◌==◌, Bool, true, false, cond, ◌||◌, List, [], ◌∷◌, ◌++◌, length, get_or, Option, sym, refl, ap, ◌∙◌, eqb-true, eq-eqb, arith}
use Rattle.terms.specs.declared.symbol.Symbol.{Symbol}
use Rattle.terms.specs.Term.{Term, variable, instrument, apply, symbols}
use Rattle.rewriting.specs.Bindings.{Bindings, bound}
use Rattle.rewriting.proofs.Matching.{binds, binds_append, bound_right}
use Rattle.node_store.specs.Placed.{Placed, none, at, size, IsTerm}
use Rattle.node_store.specs.Work.{size_all}
use Rattle.node_store.proofs.Placing.{hit_self}
use Rattle.node_store.proofs.Standing.{term_size}
use Rattle.compiled.specs.Symbols.{is_variable, has_variable, home, plain}
use Rattle.matching.proofs.Copies.{weigh, plain_append, weigh_append}
use Rattle.matching.proofs.Sums.{times}
use Rattle.matching.proofs.Peelings.{Beside, nothing, bound_part, leaf_part, node_part}
use Rattle.stepping.specs.Keeping.{rows_for}

-- a variable among parts of terms
has_append : (x : ℕ) (l r : List Term) → has_variable x (l ++ r) ≡ (has_variable x l || has_variable x r)
has_append x [] r = refl
has_append x (t ∷ l) r = go (is_variable x t) (has_append x l r)
  where
    go : (b : Bool) → has_variable x (l ++ r) ≡ (has_variable x l || has_variable x r) → (b || has_variable x (l ++ r)) ≡ ((b || has_variable x l) || has_variable x r)
    go true e = refl
    go false e = e

-- another part at the end
pub has_snoc : (x : ℕ) (l : List Term) (t : Term) → has_variable x (l ++ t ∷ []) ≡ (is_variable x t || has_variable x l)
has_snoc x l t = has_append x l (t ∷ []) ∙ go (has_variable x l) (is_variable x t)
  where
    go : (a b : Bool) → (a || (b || false)) ≡ (b || a)
    go true true = refl
    go true false = refl
    go false true = refl
    go false false = refl

pub right_or : (a : Bool) → (a || true) ≡ true
right_or true = refl
right_or false = refl

-- a variable is bound as often as it stands among the parts
pub beside_binds : (x : ℕ) (w : Placed) (l : List Term) (ps : List ℕ) (kept : List Placed) (v : Bindings) → Beside w l ps kept v → binds x v ≡ times x l
beside_binds x w l ps kept v nothing = refl
beside_binds x w l ps kept v (bound_part {ts = l′} {ps = ps′} {kept = kept′} {m = v′} a i k) = let e = beside_binds x w l′ ps′ kept′ v′ k in omega arith
beside_binds x w l ps kept v (leaf_part {ts = l′} {ps = ps′} k) = let e = beside_binds x w l′ ps′ kept v k in omega arith
beside_binds x w l ps kept v (node_part {ts = l′} {ps = ps′} k) = let e = beside_binds x w l′ ps′ kept v k in omega arith

-- the row of a variable that stands among the parts, and those before and behind it
pub record Found (x : ℕ) (l : List Term) (ps : List ℕ) (kept : List Placed) (v : Bindings) : Type 0 where
  pub place : ℕ
  pub symbol : Option Symbol
  pub args : Placed
  pub term : Term
  pub is : IsTerm symbol args term
  pub stands : get_or ps (home x l) 0 ≡ place
  pub before : List Placed
  pub behind : List Placed
  pub rows : kept ≡ before ++ at place symbol args none ∷ behind
  pub earlier : Bindings
  pub later : Bindings
  pub names : v ≡ earlier ++ (x, term) ∷ later
  pub many : length before ≡ length earlier
  pub first : binds x earlier ≡ 0

module _ (x : ℕ) (w : Placed) where
  -- the row stands behind that of another part
  behind_bare : (p : Term) (q : ℕ) (l : List Term) (ps : List ℕ) (kept : List Placed) (v : Bindings) → home x (p ∷ l) ≡ suc (home x l) → Found x l ps kept v → Found x (p ∷ l) (q ∷ ps) kept v
  behind_bare p q l ps kept v e f = record { place = f.place; symbol = f.symbol; args = f.args; term = f.term; is = f.is; stands = ap (λ k. get_or (q ∷ ps) k 0) e ∙ f.stands; before = f.before; behind = f.behind; rows = f.rows; earlier = f.earlier; later = f.later; names = f.names; many = f.many; first = f.first }

  pub find_row : (l : List Term) (ps : List ℕ) (kept : List Placed) (v : Bindings) → Beside w l ps kept v → has_variable x l ≡ true → Found x l ps kept v
  find_row l ps kept v nothing e = absurd (let z : ⊥ = cc in z)
  find_row l ps kept v (leaf_part {n = n} {q = q} {ts = l′} {ps = ps′} k) e = behind_bare (instrument n) q l′ ps′ kept v refl (find_row l′ ps′ kept v k e)
  find_row l ps kept v (node_part {f = f} {q = q} {us = fs} {ts = l′} {ps = ps′} k) e = behind_bare (apply f fs) q l′ ps′ kept v refl (find_row l′ ps′ kept v k e)
  find_row l ps kept v (bound_part {x = y} {q = q} {s = s} {ks = ks} {t = t} {ts = l′} {ps = ps′} {kept = kept′} {m = v′} u i k) e = go (x == y) refl (find_row l′ ps′ kept′ v′ k)
    where
      go : (b : Bool) → (x == y) ≡ b → (has_variable x l′ ≡ true → Found x l′ ps′ kept′ v′) → Found x (variable y ∷ l′) (q ∷ ps′) (at q s ks none ∷ kept′) ((y, t) ∷ v′)
      go true h rec = record {
        place = q;
        symbol = s;
        args = ks;
        term = t;
        is = i;
        stands = ap (λ c. get_or (q ∷ ps′) (cond c zero (suc (home x l′))) 0) h;
        before = [];
        behind = kept′;
        rows = refl;
        earlier = [];
        later = v′;
        names = λ d. (sym (eqb-true x y h) d, t) ∷ v′;
        many = refl;
        first = refl;
      }
      go false h rec =
          let f = rec (sym (ap (λ c. c || has_variable x l′) h) ∙ e) in
          let r = f.rows in
          let w = f.names in
          let n = f.many in
          let u = f.first in
          record {
            place = f.place;
            symbol = f.symbol;
            args = f.args;
            term = f.term;
            is = f.is;
            stands = ap (λ c. get_or (q ∷ ps′) (cond c zero (suc (home x l′))) 0) h ∙ f.stands;
            before = at q s ks none ∷ f.before;
            behind = f.behind;
            rows = λ d. at q s ks none ∷ r d;
            earlier = (y, t) ∷ f.earlier;
            later = f.later;
            names = λ d. (y, t) ∷ w d;
            many = omega arith;
            first = let z = ap (λ c. cond c 1 0 + binds x f.earlier) h in omega arith;
          }

-- the term is what the variable is bound to
pub found_bound : (x : ℕ) (l : List Term) (ps : List ℕ) (kept : List Placed) (v : Bindings) (f : Found x l ps kept v) → bound v x ≡ f.term
found_bound x l ps kept v f = ap (λ w. bound w x) f.names ∙ bound_right x f.earlier ((x, f.term) ∷ f.later) f.first ∙ ap (λ c. cond c f.term (bound f.later x)) (eq-eqb x x refl)

-- the rows of two lists of bindings
rows_for-append : (f : ℕ → Bool) (v w : Bindings) (xs ys : List Placed) → length xs ≡ length v → rows_for f (v ++ w) (xs ++ ys) ≡ rows_for f v xs ++ rows_for f w ys
rows_for-append f [] w [] ys e = refl
rows_for-append f [] w (q ∷ xs) ys e = absurd (let z : ⊥ = omega arith in z)
rows_for-append f (b ∷ v) w [] ys e = absurd (let z : ⊥ = omega arith in z)
rows_for-append f (b ∷ v) w (q ∷ xs) ys e = go (f b.0) (rows_for-append f v w xs ys (omega arith))
  where
    go : (c : Bool) → rows_for f (v ++ w) (xs ++ ys) ≡ rows_for f v xs ++ rows_for f w ys → cond c (q ∷ rows_for f (v ++ w) (xs ++ ys)) (rows_for f (v ++ w) (xs ++ ys)) ≡ cond c (q ∷ rows_for f v xs) (rows_for f v xs) ++ rows_for f w ys
    go true h = λ d. q ∷ h d
    go false h = h

-- a variable that is not bound does not matter
rows_for-other : (x : ℕ) (f g : ℕ → Bool) → ((y : ℕ) → (x == y) ≡ false → f y ≡ g y) → (v : Bindings) (xs : List Placed) → binds x v ≡ 0 → rows_for f v xs ≡ rows_for g v xs
rows_for-other x f g e [] xs z = refl
rows_for-other x f g e (b ∷ v) [] z = refl
rows_for-other x f g e (b ∷ v) (q ∷ xs) z = go (x == b.0) refl z (rows_for-other x f g e v xs)
  where
    go : (c : Bool) → (x == b.0) ≡ c → cond c 1 0 + binds x v ≡ 0 → (binds x v ≡ 0 → rows_for f v xs ≡ rows_for g v xs) → cond (f b.0) (q ∷ rows_for f v xs) (rows_for f v xs) ≡ cond (g b.0) (q ∷ rows_for g v xs) (rows_for g v xs)
    go true h z rec = absurd (let y : ⊥ = omega arith in y)
    go false h z rec = let r = rec (omega arith) in λ d. cond (e b.0 h d) (q ∷ r d) (r d)

pub rows_for-none : (v : Bindings) (xs : List Placed) → rows_for (λ y. false) v xs ≡ []
rows_for-none [] xs = refl
rows_for-none (b ∷ v) [] = refl
rows_for-none (b ∷ v) (q ∷ xs) = rows_for-none v xs

-- the row of one variable among those that are asked for, and the others if it is not asked for
pub record Among (f g : ℕ → Bool) (kept : List Placed) (v : Bindings) (q : Placed) : Type 0 where
  pub front : List Placed
  pub back : List Placed
  pub with : rows_for f v kept ≡ front ++ q ∷ back
  pub without : rows_for g v kept ≡ front ++ back

pub row_among : (x : ℕ) (l : List Term) (ps : List ℕ) (kept : List Placed) (v : Bindings) (w : Found x l ps kept v) (f g : ℕ → Bool) → binds x v ≤ 1 → f x ≡ true → g x ≡ false → ((y : ℕ) → (x == y) ≡ false → f y ≡ g y) → Among f g kept v (at w.place w.symbol w.args none)
row_among x l ps kept v w f g one asked not same =
    let q = at w.place w.symbol w.args none in
    let b = ap (binds x) w.names in
    let c = binds_append x w.earlier ((x, w.term) ∷ w.later) in
    let d = hit_self x in
    let u = w.first in
    let e = rows_for-other x f g same w.earlier w.before u in
    let h = rows_for-other x f g same w.later w.behind (omega arith) in
    record {
      front = rows_for f w.earlier w.before;
      back = rows_for f w.later w.behind;
      with = (λ i. rows_for f (w.names i) (w.rows i)) ∙ rows_for-append f w.earlier ((x, w.term) ∷ w.later) w.before (q ∷ w.behind) w.many ∙ ap (λ c. rows_for f w.earlier w.before ++ cond c (q ∷ rows_for f w.later w.behind) (rows_for f w.later w.behind)) asked;
      without = (λ i. rows_for g (w.names i) (w.rows i)) ∙ rows_for-append g w.earlier ((x, w.term) ∷ w.later) w.before (q ∷ w.behind) w.many ∙ ap (λ c. rows_for g w.earlier w.before ++ cond c (q ∷ rows_for g w.later w.behind) (rows_for g w.later w.behind)) not ∙ (λ i. sym e i ++ sym h i);
    }

-- what parts need under bindings, each counted by its first symbol, and a variable by all that it is bound to
abbrev pub weights : Bindings → List Term → ℕ
weights v l = plain l + weigh (λ x. symbols (bound v x)) l

pub weights-append : (v : Bindings) (l r : List Term) → weights v (l ++ r) ≡ weights v l + weights v r
weights-append v l r = omega (arith, plain_append l r, weigh_append (λ x. symbols (bound v x)) l r)

equal_back : (x y : ℕ) → (x == y) ≡ false → (y == x) ≡ false
equal_back x y e = go (y == x) refl
  where
    go : (b : Bool) → (y == x) ≡ b → (y == x) ≡ false
    go true h = let z = eq-eqb x y (sym (eqb-true y x h)) in absurd (let w : ⊥ = cc in w)
    go false h = h

-- asking for a variable that was asked for already, and for another one
pub asked_again : (x : ℕ) (f : ℕ → Bool) → f x ≡ true → (y : ℕ) → ((y == x) || f y) ≡ f y
asked_again x f e y = go (y == x) refl
  where
    go : (b : Bool) → (y == x) ≡ b → (b || f y) ≡ f y
    go true h = sym (ap f (eqb-true y x h) ∙ e)
    go false h = refl

pub asked_more : (x : ℕ) (f : ℕ → Bool) (y : ℕ) → (x == y) ≡ false → ((y == x) || f y) ≡ f y
asked_more x f y e = ap (λ b. b || f y) (equal_back x y e)

pub size_middle : (xs ys : List Placed) (q : Placed) → size_all (xs ++ q ∷ ys) ≡ size q + size_all (xs ++ ys)
size_middle [] ys q = refl
size_middle (x ∷ xs) ys q = let e = size_middle xs ys q in omega arith

-- the rows that some parts ask for have at most as many nodes as the parts need
module _ (v : Bindings) (kept : List Placed) (l : List Term) (ps : List ℕ) (w : Placed) (k : Beside w l ps kept v) (one : (x : ℕ) → binds x v ≤ 1) where
  more_rows : (x : ℕ) (f : ℕ → Bool) → has_variable x l ≡ true → size_all (rows_for (λ y. (y == x) || f y) v kept) ≤ symbols (bound v x) + size_all (rows_for f v kept)
  more_rows x f e = go (f x) refl
    where
      go : (b : Bool) → f x ≡ b → size_all (rows_for (λ y. (y == x) || f y) v kept) ≤ symbols (bound v x) + size_all (rows_for f v kept)
      go true h = let z : size_all (rows_for (λ y. (y == x) || f y) v kept) ≡ size_all (rows_for f v kept) = λ i. size_all (rows_for (λ y. asked_again x f h y i) v kept) in omega arith
      go false h =
          let o = find_row x w l ps kept v k e in
          let r = row_among x l ps kept v o (λ y. (y == x) || f y) f (one x) (ap (λ b. b || f x) (eq-eqb x x refl)) h (asked_more x f) in
          let a = ap size_all r.with in
          let b = ap size_all r.without in
          let c = size_middle r.front r.back (at o.place o.symbol o.args none) in
          let d = ap symbols (found_bound x l ps kept v o) in
          let s = term_size o.symbol o.args o.term o.is in
          omega arith

  pub rows_weigh : (bs : List Term) → ((x : ℕ) → has_variable x bs ≡ true → has_variable x l ≡ true) → size_all (rows_for (λ y. has_variable y bs) v kept) ≤ weights v bs
  rows_weigh [] inside = let z = ap size_all (rows_for-none v kept) in omega arith
  rows_weigh (variable x ∷ bs) inside =
      let r = rows_weigh bs (λ y e. inside y (ap (λ c. (y == x) || c) e ∙ right_or (y == x))) in
      let n = more_rows x (λ y. has_variable y bs) (inside x (ap (λ c. c || has_variable x bs) (eq-eqb x x refl))) in
      omega arith
  rows_weigh (instrument n ∷ bs) inside = let r = rows_weigh bs inside in omega arith
  rows_weigh (apply f ts ∷ bs) inside = let r = rows_weigh bs inside in omega arith
