-- The right side: how many symbols it has when it is filled, and which of its variables are copied.
use Rattle.std.proofs.Common.{◌≡◌, ℕ, ◌+◌, cond, Bool, true, false, not, ◌||◌, ◌&&◌, List, [], ◌∷◌, ◌++◌, append_assoc, append-nil, map, sum, refl, sym, ap, ◌∙◌, subst, eqb-true, eq-eqb, arith}
use Rattle.std.proofs.lemmas.Bool.{false≢true}
use Rattle.std.proofs.lemmas.List.Sums.{sum_by-cons}
use Rattle.terms.specs.Term.{Term, variable, instrument, apply, Terms, nil, cons, symbols, symbols_in}
use Rattle.terms.specs.Substitution.{Substitution, fill, fill_all}
use Rattle.compiled.specs.Symbols.{parts_of, parts_under, is_variable, has_variable, home, plain}
use Rattle.compiled.specs.declared.Piece.{Piece}
use Rattle.compiled.specs.declared.Source.{Source}
use Rattle.compiled.specs.declared.Source.TheVariants.{Made, Moved, Copied}
use Rattle.compiled.specs.Plans.{pieces_of, pieces_under, source_of, copy_before, copied_in}
use Rattle.matching.proofs.Sums.{times, sum_at, sum_none, sum_more}

pub plain_append : (ts us : List Term) → plain (ts ++ us) ≡ plain ts + plain us
plain_append [] us = omega arith
plain_append (variable x ∷ ts) us = plain_append ts us
plain_append (instrument n ∷ ts) us = let h = plain_append ts us in omega arith
plain_append (apply f fs ∷ ts) us = let h = plain_append ts us in omega arith

module _ (w : ℕ → ℕ) where
  -- what the variables among the parts weigh, each time that they stand there
  abbrev pub weigh : List Term → ℕ
  weigh [] = 0
  weigh (variable x ∷ ts) = w x + weigh ts
  weigh (instrument n ∷ ts) = weigh ts
  weigh (apply f us ∷ ts) = weigh ts

  pub weigh_append : (ts us : List Term) → weigh (ts ++ us) ≡ weigh ts + weigh us
  weigh_append [] us = omega arith
  weigh_append (variable x ∷ ts) us = let h = weigh_append ts us in omega arith
  weigh_append (instrument n ∷ ts) us = weigh_append ts us
  weigh_append (apply f fs ∷ ts) us = weigh_append ts us

-- the symbols of a filled term: its own that are no variables, and those of what its variables stand for
module _ (σ : Substitution) where
  mutual
    pub filled_symbols : (t : Term) → symbols (fill σ t) ≡ plain (t ∷ parts_under t) + weigh (λ x. symbols (σ x)) (t ∷ parts_under t)
    filled_symbols (variable x) = omega arith
    filled_symbols (instrument n) = refl
    filled_symbols (apply f ts) = let h = filled_row ts in omega arith

    filled_row : (ts : Terms) → symbols_in (fill_all σ ts) ≡ plain (parts_of ts) + weigh (λ x. symbols (σ x)) (parts_of ts)
    filled_row nil = refl
    filled_row (cons t us) =
        let a = filled_symbols t in
        let b = filled_row us in
        let c = plain_append (t ∷ parts_under t) (parts_of us) in
        let d = weigh_append (λ x. symbols (σ x)) (t ∷ parts_under t) (parts_of us) in
        omega arith

module _ (left : List Term) where
  -- the numbers from which parts are copied that stand behind others
  abbrev pub copies : List Term → List Term → List ℕ
  copies before [] = []
  copies before (t ∷ ts) = copy_before (source_of left before t) (copies (before ++ t ∷ []) ts)

  put_before : (s : Source) (ks js : List ℕ) → copy_before s (ks ++ js) ≡ copy_before s ks ++ js
  put_before (Made s) ks js = refl
  put_before (Moved k) ks js = refl
  put_before (Copied k) ks js = refl

  copies_append : (before ts us : List Term) → copies before (ts ++ us) ≡ copies before ts ++ copies (before ++ ts) us
  copies_append before [] us = ap (λ l. copies l us) (sym (append-nil before))
  copies_append before (t ∷ ts) us =
      ap (copy_before (source_of left before t)) (copies_append (before ++ t ∷ []) ts us)
      ∙ put_before (source_of left before t) (copies (before ++ t ∷ []) ts) (copies (before ++ t ∷ [] ++ ts) us)
      ∙ ap (λ l. copies before (t ∷ ts) ++ copies l us) (append_assoc before (t ∷ []) ts)

  copied_append : (ps qs : List Piece) → copied_in (ps ++ qs) ≡ copied_in ps ++ copied_in qs
  copied_append [] qs = refl
  copied_append (p ∷ ps) qs = ap (copy_before p.source) (copied_append ps qs) ∙ put_before p.source (copied_in ps) (copied_in qs)

  mutual
    pub copied_under : (before : List Term) (t : Term) → copied_in (pieces_under left before t) ≡ copies before (parts_under t)
    copied_under before (variable x) = refl
    copied_under before (instrument n) = refl
    copied_under before (apply f ts) = copied_row before ts

    copied_row : (before : List Term) (ts : Terms) → copied_in (pieces_of left before ts) ≡ copies before (parts_of ts)
    copied_row before nil = refl
    copied_row before (cons t us) =
        ap (copy_before (source_of left before t)) (
        copied_append (pieces_under left (before ++ t ∷ []) t) (pieces_of left (before ++ t ∷ parts_under t) us)
        ∙ (λ i. copied_under (before ++ t ∷ []) t i ++ copied_row (before ++ t ∷ parts_under t) us i)
        ∙ ap (λ l. copies (before ++ t ∷ []) (parts_under t) ++ copies l (parts_of us)) (sym (append_assoc before (t ∷ []) (parts_under t)))
        ∙ sym (copies_append (before ++ t ∷ []) (parts_under t) (parts_of us)))

has_append : (y : ℕ) (ts us : List Term) → has_variable y (ts ++ us) ≡ (has_variable y ts || has_variable y us)
has_append y [] us = refl
has_append y (t ∷ ts) us = go (is_variable y t) (has_append y ts us)
  where
    go : (b : Bool) → has_variable y (ts ++ us) ≡ (has_variable y ts || has_variable y us) → (b || has_variable y (ts ++ us)) ≡ (b || has_variable y ts || has_variable y us)
    go true h = refl
    go false h = h

and_false : (b : Bool) → (b && false) ≡ false
and_false true = refl
and_false false = refl

-- tests before and behind a part
tests_same : (p q r : Bool) → (q ≡ true → p ≡ true) → (not p && (q || r)) ≡ (not (p || (q || false)) && r)
tests_same true q r h = refl
tests_same false true r h = absurd (false≢true (h refl))
tests_same false false r h = refl

module _ (left : List Term) (v w : ℕ → ℕ) where
  -- each variable among the parts stands on the left once, and weighs what stands at its number there
  abbrev pub Weighed : List Term → Type 0
  Weighed ts = (x : ℕ) → has_variable x ts ≡ true → (times x left ≡ 1) × (w x ≡ v (home x left))

  weighed_behind : (t : Term) (ts : List Term) → Weighed (t ∷ ts) → Weighed ts
  weighed_behind t ts h x e = h x (go (is_variable x t))
    where
      go : (b : Bool) → (b || has_variable x ts) ≡ true
      go true = refl
      go false = e

  -- the variables that are not before but behind
  abbrev first_there : List Term → List Term → ℕ → Bool
  first_there before ts y = not (has_variable y before) && has_variable y ts

  test_at : (before : List Term) (t : Term) (ts : List Term) (y : ℕ) → (is_variable y t ≡ true → has_variable y before ≡ true) → first_there before (t ∷ ts) y ≡ first_there (before ++ t ∷ []) ts y
  test_at before t ts y h = tests_same (has_variable y before) (is_variable y t) (has_variable y ts) h ∙ ap (λ b. not b && has_variable y ts) (sym (has_append y before (t ∷ [])))

  -- a part that is no variable, or one that stood before
  weigh_known : (before : List Term) (t : Term) (ts : List Term) → ((y : ℕ) → is_variable y t ≡ true → has_variable y before ≡ true) → sum_at v (first_there before (t ∷ ts)) 0 left ≡ sum_at v (first_there (before ++ t ∷ []) ts) 0 left
  weigh_known before t ts h = λ i. sum_at v (λ y. test_at before t ts y (h y) i) 0 left

  -- a variable that stands first
  weigh_first : (before : List Term) (x : ℕ) (ts : List Term) → has_variable x before ≡ false → times x left ≡ 1 → sum_at v (first_there before (variable x ∷ ts)) 0 left ≡ sum_at v (first_there (before ++ variable x ∷ []) ts) 0 left + v (home x left)
  weigh_first before x ts e one =
      sum_more v x (first_there (before ++ variable x ∷ []) ts) (first_there before (variable x ∷ ts)) 0 left
      (λ y n. test_at before (variable x) ts y (λ z. absurd (n (sym (eqb-true y x z)))))
      (ap (λ b. not b && has_variable x ts) (has_append x before (variable x ∷ []) ∙ ap (λ b. has_variable x before || (b || false)) (eq-eqb x x refl) ∙ or_true (has_variable x before)))
      ((λ i. not (e i) && (eq-eqb x x refl i || has_variable x ts))) one
      ∙ ap (λ k. sum_at v (first_there (before ++ variable x ∷ []) ts) 0 left + v k) (let q : 0 + home x left ≡ home x left = omega arith in q)
    where
      or_true : (b : Bool) → (b || true) ≡ true
      or_true true = refl
      or_true false = refl

  pub weigh_copies : (before ts : List Term) → Weighed ts → weigh w ts ≡ sum (map v (copies left before ts)) + sum_at v (first_there before ts) 0 left
  weigh_copies before [] h = sym ((λ i. 0 + sum_at v (λ y. and_false (not (has_variable y before)) i) 0 left) ∙ ap (λ n. 0 + n) (sum_none v 0 left))
  weigh_copies before (instrument n ∷ ts) h = weigh_copies (before ++ instrument n ∷ []) ts (weighed_behind (instrument n) ts h) ∙ ap (λ k. sum (map v (copies left (before ++ instrument n ∷ []) ts)) + k) (sym (weigh_known before (instrument n) ts (λ y z. absurd (false≢true z))))
  weigh_copies before (apply f us ∷ ts) h = weigh_copies (before ++ apply f us ∷ []) ts (weighed_behind (apply f us) ts h) ∙ ap (λ n. sum (map v (copies left (before ++ apply f us ∷ []) ts)) + n) (sym (weigh_known before (apply f us) ts (λ y z. absurd (false≢true z))))
  weigh_copies before (variable x ∷ ts) h = go (has_variable x before) refl (weigh_copies (before ++ variable x ∷ []) ts (weighed_behind (variable x) ts h))
    where
      rest : List ℕ
      rest = copies left (before ++ variable x ∷ []) ts

      here : (times x left ≡ 1) × (w x ≡ v (home x left))
      here = h x (ap (λ b. b || has_variable x ts) (eq-eqb x x refl))

      go : (b : Bool) → has_variable x before ≡ b → weigh w ts ≡ sum (map v rest) + sum_at v (first_there (before ++ variable x ∷ []) ts) 0 left
          → w x + weigh w ts ≡ sum (map v (copy_before (cond b (Copied (home x left)) (Moved (home x left))) rest)) + sum_at v (first_there before (variable x ∷ ts)) 0 left
      go true e r =
          let s = weigh_known before (variable x) ts (λ y z. subst (λ u. has_variable u before ≡ true) (sym (eqb-true y x z)) e) in
          let c = sum_by-cons (λ n. n) (v (home x left)) (map v rest) in
          let one = here.1 in
          omega arith
      go false e r =
          let s = weigh_first before x ts e here.0 in
          let one = here.1 in
          omega arith
