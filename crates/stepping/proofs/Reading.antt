-- Reading the parts of a row: after some of them, rows are left, and the pieces for these.
use Rattle.std.proofs.Common.{◌≡◌, ℕ, suc, ◌+◌, ◌≤◌, true, cond, List, [], ◌∷◌, ◌++◌, length, drop, sym, refl, ap, ◌∙◌, subst, append_assoc, append-nil, arith}
use Rattle.std.proofs.lemmas.List.{length-append, drop-drop}
use Rattle.terms.specs.Term.{Term, variable, instrument, apply, Terms, nil, cons}
use Rattle.node_store.specs.Loading.{arguments_of}
use Rattle.terms.specs.Substitution.{occurrences, occurrences_in}
use Rattle.compiled.specs.Symbols.{parts_of, parts_under, is_variable, has_variable, Narrow, AllNarrow}
use Rattle.compiled.specs.declared.Piece.{Piece}
use Rattle.compiled.specs.Plans.{pieces_of, pieces_under}
use Rattle.matching.proofs.Needs.{parts_same}
use Rattle.matching.proofs.Sums.{times, times_append, has_times}

-- the parts that are read so far, and the rows that are left
pub data Read (start : Terms) : List Term → List Terms → Type 0 where
  begin : Read start [] (start ∷ [])
  skip : {bs : List Term} {pss : List Terms} → Read start bs (nil ∷ pss) → Read start bs pss
  read : {bs cs : List Term} {t : Term} {us : Terms} {pss : List Terms} → Read start bs (cons t us ∷ pss) → cs ≡ bs ++ t ∷ [] → Read start cs (arguments_of t ∷ us ∷ pss)

-- a row is read to its end
mutual
  pub read_row : (start : Terms) (bs : List Term) (ts : Terms) (pss : List Terms) → Read start bs (ts ∷ pss) → Read start (bs ++ parts_of ts) pss
  read_row start bs nil pss r = subst (λ l. Read start l pss) (sym (append-nil bs)) (skip r)
  read_row start bs (cons t us) pss r =
      let a = read_term start (bs ++ t ∷ []) t (us ∷ pss) (read r refl) in
      let b = read_row start ((bs ++ t ∷ []) ++ parts_under t) us pss a in
      let e : ((bs ++ t ∷ []) ++ parts_under t) ++ parts_of us ≡ bs ++ t ∷ (parts_under t ++ parts_of us) = append_assoc (bs ++ t ∷ []) (parts_under t) (parts_of us) ∙ append_assoc bs (t ∷ []) (parts_under t ++ parts_of us) in
      subst (λ l. Read start l pss) e b

  read_term : (start : Terms) (bs : List Term) (t : Term) (pss : List Terms) → Read start bs (arguments_of t ∷ pss) → Read start (bs ++ parts_under t) pss
  read_term start bs (variable x) pss r = subst (λ l. Read start l pss) (sym (append-nil bs)) (skip r)
  read_term start bs (instrument n) pss r = subst (λ l. Read start l pss) (sym (append-nil bs)) (skip r)
  read_term start bs (apply f ts) pss r = read_row start bs ts pss r

pub read_all : (start : Terms) → Read start (parts_of start) []
read_all start = read_row start [] start [] begin

-- the pieces for rows that stand behind some parts
abbrev pub pieces_all : List Term → List Term → List Terms → List Piece
pieces_all left before [] = []
pieces_all left before (ts ∷ pss) = pieces_of left before ts ++ pieces_all left (before ++ parts_of ts) pss

pub pieces_term : (left before : List Term) (t : Term) → pieces_under left before t ≡ pieces_of left before (arguments_of t)
pieces_term left before (variable x) = refl
pieces_term left before (instrument n) = refl
pieces_term left before (apply f ts) = refl

-- the pieces that are left are those for the rows that are left
pub pieces_left : (start : Terms) (left before bs : List Term) (pss : List Terms) → Read start bs pss → drop (length bs) (pieces_all left before (start ∷ [])) ≡ pieces_all left (before ++ bs) pss
pieces_left start left before bs pss begin = ap (λ b. pieces_of left b start ++ []) (sym (append-nil before))
pieces_left start left before bs pss (skip r) = pieces_left start left before bs (nil ∷ pss) r ∙ ap (λ b. pieces_all left b pss) (append-nil (before ++ bs))
pieces_left start left before bs pss (read {bs = bs′} {t = t} {us = us} {pss = pss′} r e) =
    let all = pieces_all left before (start ∷ []) in
    let h = before ++ bs′ in
    let n = ap length e in
    let k : length bs ≡ length bs′ + 1 = omega (arith, length-append bs′ (t ∷ [])) in
    let c : h ++ t ∷ [] ≡ before ++ bs = append_assoc before bs′ (t ∷ []) ∙ ap (λ l. before ++ l) (sym e) in
    let v : h ++ t ∷ parts_under t ≡ (before ++ bs) ++ parts_of (arguments_of t) = sym (append_assoc h (t ∷ []) (parts_under t)) ∙ (λ i. c i ++ parts_same t i) in
    let w : h ++ t ∷ (parts_under t ++ parts_of us) ≡ ((before ++ bs) ++ parts_of (arguments_of t)) ++ parts_of us = sym (append_assoc h (t ∷ parts_under t) (parts_of us)) ∙ ap (λ l. l ++ parts_of us) v in
    let u = pieces_term left (h ++ t ∷ []) t ∙ ap (λ b. pieces_of left b (arguments_of t)) c in
    ap (λ m. drop m all) k ∙ sym (drop-drop 1 (length bs′) all) ∙ ap (drop 1) (pieces_left start left before bs′ (cons t us ∷ pss′) r)
    ∙ append_assoc (pieces_under left (h ++ t ∷ []) t) (pieces_of left (h ++ t ∷ parts_under t) us) (pieces_all left (h ++ t ∷ (parts_under t ++ parts_of us)) pss′)
    ∙ (λ i. u i ++ (pieces_of left (v i) us ++ pieces_all left (w i) pss′))

-- there is a piece for each part
mutual
  pub as_many_of : (left before : List Term) (ts : Terms) → length (pieces_of left before ts) ≡ length (parts_of ts)
  as_many_of left before nil = refl
  as_many_of left before (cons t us) =
      let a = as_many_under left (before ++ t ∷ []) t in
      let b = as_many_of left (before ++ t ∷ parts_under t) us in
      omega (arith, length-append (pieces_under left (before ++ t ∷ []) t) (pieces_of left (before ++ t ∷ parts_under t) us), length-append (parts_under t) (parts_of us))

  pub as_many_under : (left before : List Term) (t : Term) → length (pieces_under left before t) ≡ length (parts_under t)
  as_many_under left before (variable x) = refl
  as_many_under left before (instrument n) = refl
  as_many_under left before (apply f ts) = as_many_of left before ts

-- how often a variable stands in rows
abbrev pub occurrences_all : ℕ → List Terms → ℕ
occurrences_all x [] = 0
occurrences_all x (ts ∷ pss) = occurrences_in x ts + occurrences_all x pss

-- the variables of a term are its own first symbol and those of its arguments
pub term_occurs : (x : ℕ) (t : Term) → occurrences x t ≡ cond (is_variable x t) 1 0 + occurrences_in x (arguments_of t)
term_occurs x (variable y) = omega arith
term_occurs x (instrument n) = refl
term_occurs x (apply f ts) = omega arith

-- the variables that were read, and those of the rows that are left, are those of the row
read_times : (x : ℕ) (start : Terms) (bs : List Term) (pss : List Terms) → Read start bs pss → times x bs + occurrences_all x pss ≡ occurrences_in x start
read_times x start bs pss begin = omega arith
read_times x start bs pss (skip r) = let o = read_times x start bs (nil ∷ pss) r in omega arith
read_times x start bs pss (read {bs = bs′} {t = t} {us = us} {pss = pss′} r e) = let o = read_times x start bs′ (cons t us ∷ pss′) r in let z = ap (times x) e in omega (arith, term_occurs x t, times_append x bs′ (t ∷ []))

-- a variable that was read is one of the row's
pub read_has : (x : ℕ) (start : Terms) (bs : List Term) (pss : List Terms) → Read start bs pss → has_variable x bs ≡ true → 1 ≤ occurrences_in x start
read_has x start bs pss r e = omega (arith, has_times x bs e, read_times x start bs pss r)

-- no operator of the rows has more than three arguments
abbrev pub NarrowRows : List Terms → Type 0
NarrowRows [] = Unit {0}
NarrowRows (ts ∷ pss) = AllNarrow ts × NarrowRows pss

pub narrow_under : (t : Term) → Narrow t → AllNarrow (arguments_of t)
narrow_under (variable x) n = tt
narrow_under (instrument k) n = tt
narrow_under (apply f ts) n = n.1

pub read_narrow : (start : Terms) (bs : List Term) (pss : List Terms) → AllNarrow start → Read start bs pss → NarrowRows pss
read_narrow start bs pss n begin = (n, tt)
read_narrow start bs pss n (skip r) = (read_narrow start bs (nil ∷ pss) n r).1
read_narrow start bs pss n (read {bs = bs′} {t = t} {us = us} {pss = pss′} r e) = let w = read_narrow start bs′ (cons t us ∷ pss′) n r in (narrow_under t w.0.0, (w.0.1, w.1))

-- rows without those before the first that are empty
pub data Skips {A : Type 0} (e : A) : List A → List A → Type 0 where
  same : {l : List A} → Skips e l l
  one : {l r : List A} → Skips e l (e ∷ r) → Skips e l r

-- the last part that was read
pub record LastRead (start : Terms) (bs : List Term) (pss : List Terms) : Type 0 where
  pub earlier : List Term
  pub term : Term
  pub later : Terms
  pub others : List Terms
  pub was : Read start earlier (cons term later ∷ others)
  pub is : bs ≡ earlier ++ term ∷ []
  pub skips : Skips nil (arguments_of term ∷ later ∷ others) pss

pub last_read : (start : Terms) (bs : List Term) (pss : List Terms) (i : ℕ) → length bs ≡ suc i → Read start bs pss → LastRead start bs pss
last_read start bs pss i n begin = absurd (let z : ⊥ = omega arith in z)
last_read start bs pss i n (skip r) = let w = last_read start bs (nil ∷ pss) i n r in record { earlier = w.earlier; term = w.term; later = w.later; others = w.others; was = w.was; is = w.is; skips = one w.skips }
last_read start bs pss i n (read {bs = bs′} {t = t} {us = us} {pss = pss′} r e) = record { earlier = bs′; term = t; later = us; others = pss′; was = r; is = e; skips = same }

-- nothing was read
pub first_read : (start : Terms) (bs : List Term) (pss : List Terms) → length bs ≡ 0 → Read start bs pss → Skips nil (start ∷ []) pss
first_read start bs pss n begin = same
first_read start bs pss n (skip r) = one (first_read start bs (nil ∷ pss) n r)
first_read start bs pss n (read {bs = bs′} {t = t} r e) = let l = ap length e in absurd (let z : ⊥ = omega (arith, length-append bs′ (t ∷ [])) in z)
