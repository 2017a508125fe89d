-- The positions of a term are listed in reading order.
use Rattle.std.proofs.Common.{◌≡◌, refl, ap, subst, List, [], ◌∷◌, ◌++◌, map, inl, inr, ℕ, zero, suc, ◌+◌, ◌<◌, ◌≤◌, length, slice_index_or, arith, Contains, AllPairs, All}
use Rattle.std.proofs.Math.Option.{some}
use Rattle.std.proofs.lemmas.List.Elements.{Contains-append_left, Contains-append_right}
use Rattle.std.proofs.lemmas.List.Elements.{All-cons, All-append, All-map}
use Rattle.std.proofs.lemmas.List.Kept.{AllPairs-cons}
use Rattle.terms.specs.Term.{Term, variable, instrument, apply, Terms, nil, cons}
use Rattle.terms.specs.Position.{Position, part_at, part_in}
use Rattle.rewriting.specs.Next.{Before}
use Rattle.rewriting.specs.Positions.{positions, positions_in}
use Rattle.rewriting.specs.Laws.{PositionsAreListed}
use Rattle.rewriting.proofs.Filling.{none_some}

contains_map : {X Y : Type 0} (f : X → Y) (xs : List X) (y : X) → Contains xs y → Contains (map f xs) (f y)
contains_map {X} {Y} f xs y c = go xs c.0 c.1 c.2
  where
    go : (xs : List X) (k : ℕ) → k < length xs → slice_index_or xs k y ≡ y → Contains (map f xs) (f y)
    go [] k h e = absurd (omega arith)
    go (x ∷ xs) zero h e = (0, omega arith, ap f e)
    go (x ∷ xs) (suc k) h e = let (j, l, q) = go xs k (omega arith) e in (suc j, omega arith, q)

pairs_map : {X Y : Type 0} (R : Y → Y → Type 0) (f : X → Y) (xs : List X) → AllPairs (λ x y. R (f x) (f y)) xs → AllPairs R (map f xs)
pairs_map R f [] h = λ i j d l k. absurd (omega arith)
pairs_map R f (x ∷ xs) h =
    AllPairs-cons R (f x) (map f xs) (All-map (R (f x)) f xs (λ k d l. h 0 (suc k) d (omega arith) (omega arith))) (pairs_map R f xs (λ i j d l k. h (suc i) (suc j) d (omega arith) (omega arith)))

pairs_append : {X : Type 0} (R : X → X → Type 0) (xs ys : List X) → AllPairs R xs → AllPairs R ys → All (λ x. All (R x) ys) xs → AllPairs R (xs ++ ys)
pairs_append R [] ys h k c = k
pairs_append R (x ∷ xs) ys h k c =
    AllPairs-cons R x (xs ++ ys) (All-append (R x) xs ys (λ n d l. h 0 (suc n) d (omega arith) (omega arith)) (c 0 x (omega arith)))
    (pairs_append R xs ys (λ i j d l m. h (suc i) (suc j) d (omega arith) (omega arith)) k (λ n d l. c (suc n) d (omega arith)))

-- ---- each position is listed

mutual
  listed : (t : Term) (p : Position) {b : Term} → part_at t p ≡ some b → Contains (positions t) p
  listed (variable x) [] e = (0, omega arith, refl)
  listed (variable x) (k ∷ p) e = absurd (none_some e)
  listed (instrument n) [] e = (0, omega arith, refl)
  listed (instrument n) (k ∷ p) e = absurd (none_some e)
  listed (apply f ts) [] e = (0, omega arith, refl)
  listed (apply f ts) (k ∷ p) e = let q : 0 + k ≡ k = omega arith in Contains-append_right ([] ∷ []) (positions_in 0 ts) (k ∷ p) (subst (λ z. Contains (positions_in 0 ts) (z ∷ p)) q (listed_in 0 ts k p e))

  listed_in : (k : ℕ) (ts : Terms) (i : ℕ) (p : Position) {b : Term} → part_in ts i p ≡ some b → Contains (positions_in k ts) ((k + i) ∷ p)
  listed_in k nil i p e = absurd (none_some e)
  listed_in k (cons t ts) zero p e =
      let q : k ≡ k + 0 = omega arith in
      subst (λ z. Contains (positions_in k (cons t ts)) (z ∷ p)) q (Contains-append_left (map (λ p. k ∷ p) (positions t)) (positions_in (suc k) ts) (k ∷ p) (contains_map (λ p. k ∷ p) (positions t) p (listed t p e)))
  listed_in k (cons t ts) (suc i) p e =
      let q : suc k + i ≡ k + suc i = omega arith in
      subst (λ z. Contains (positions_in k (cons t ts)) (z ∷ p)) q (Contains-append_right (map (λ p. k ∷ p) (positions t)) (positions_in (suc k) ts) ((suc k + i) ∷ p) (listed_in (suc k) ts i p e))

-- ---- no other is

abbrev HasPosition : Term → Position → Type 0
HasPosition t p = (b : Term) × (part_at t p ≡ some b)

-- in a row whose first term is the argument of number k
abbrev HasFrom : ℕ → Terms → Position → Type 0
HasFrom k ts [] = ⊥
HasFrom k ts (i ∷ p) = (b : Term) × (j : ℕ) × (i ≡ k + j) × (part_in ts j p ≡ some b)

one_only : {X : Type 0} (P : X → Type 0) (x : X) → P x → All P (x ∷ [])
one_only P x h = All-cons P x [] h (λ k d l. absurd (omega arith))

has_next : (k : ℕ) (t : Term) (ts : Terms) (q : Position) → HasFrom (suc k) ts q → HasFrom k (cons t ts) q
has_next k t ts [] h = h
has_next k t ts (i ∷ p) h = let e = h.2 in (h.0, suc h.1, omega (arith, e), h.3)

has_under : (f : ℕ) (ts : Terms) (q : Position) → HasFrom 0 ts q → HasPosition (apply f ts) q
has_under f ts [] h = absurd h
has_under f ts (i ∷ p) h = let e : h.1 ≡ i = omega (arith, h.2) in (h.0, subst (λ z. part_in ts z p ≡ some h.0) e h.3)

mutual
  has : (t : Term) → All (HasPosition t) (positions t)
  has (variable x) = one_only (HasPosition (variable x)) [] (variable x, refl)
  has (instrument n) = one_only (HasPosition (instrument n)) [] (instrument n, refl)
  has (apply f ts) = All-cons (HasPosition (apply f ts)) [] (positions_in 0 ts) (apply f ts, refl) (λ k d h. has_under f ts (slice_index_or (positions_in 0 ts) k d) (has_in 0 ts k d h))

  has_in : (k : ℕ) (ts : Terms) → All (HasFrom k ts) (positions_in k ts)
  has_in k nil = λ j d h. absurd (omega arith)
  has_in k (cons t ts) =
      All-append (HasFrom k (cons t ts)) (map (λ p. k ∷ p) (positions t)) (positions_in (suc k) ts)
      (All-map (HasFrom k (cons t ts)) (λ p. k ∷ p) (positions t) (λ j d h. let (b, e) = has t j d h in (b, 0, omega arith, e)))
      (λ j d h. has_next k t ts (slice_index_or (positions_in (suc k) ts) j d) (has_in (suc k) ts j d h))

-- ---- they are in reading order

abbrev Later : ℕ → Position → Type 0
Later k [] = ⊥
Later k (i ∷ p) = k ≤ i

no_sooner : (k : ℕ) (q : Position) → Later (suc k) q → Later k q
no_sooner k [] h = h
no_sooner k (i ∷ q) h = omega arith

before_later : (k : ℕ) (p q : Position) → Later (suc k) q → Before (k ∷ p) q
before_later k p [] h = h
before_later k p (i ∷ q) h = inl h

before_inside : (k : ℕ) (q : Position) → Later k q → Before [] q
before_inside k [] h = h
before_inside k (i ∷ q) h = tt

later : (k : ℕ) (ts : Terms) → All (Later k) (positions_in k ts)
later k nil = λ j d h. absurd (omega arith)
later k (cons t ts) =
    All-append (Later k) (map (λ p. k ∷ p) (positions t)) (positions_in (suc k) ts) (All-map (Later k) (λ p. k ∷ p) (positions t) (λ j d h. omega arith))
    (λ j d h. no_sooner k (slice_index_or (positions_in (suc k) ts) j d) (later (suc k) ts j d h))

mutual
  in_order : (t : Term) → AllPairs Before (positions t)
  in_order (variable x) = λ i j d h k. absurd (omega arith)
  in_order (instrument n) = λ i j d h k. absurd (omega arith)
  in_order (apply f ts) = AllPairs-cons Before [] (positions_in 0 ts) (λ k d h. before_inside 0 (slice_index_or (positions_in 0 ts) k d) (later 0 ts k d h)) (in_order_in 0 ts)

  in_order_in : (k : ℕ) (ts : Terms) → AllPairs Before (positions_in k ts)
  in_order_in k nil = λ i j d h l. absurd (omega arith)
  in_order_in k (cons t ts) =
      pairs_append Before (map (λ p. k ∷ p) (positions t)) (positions_in (suc k) ts) (pairs_map Before (λ p. k ∷ p) (positions t) (λ i j d h l. inr (refl, in_order t i j d h l))) (in_order_in (suc k) ts)
      (All-map (λ x. All (Before x) (positions_in (suc k) ts)) (λ p. k ∷ p) (positions t) (λ i d h j e l. before_later k (slice_index_or (positions t) i d) (slice_index_or (positions_in (suc k) ts) j e) (later (suc k) ts j e l)))

pub positions_are_listed : PositionsAreListed
positions_are_listed t = record { all = λ p b e. listed t p e; only = λ p c. subst (HasPosition t) c.2 (has t c.0 p c.1); in_order = in_order t }
