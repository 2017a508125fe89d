-- Terms that stand at the places of a view.
use Rattle.std.proofs.Common.{◌≡◌, ℕ, suc, ◌+◌, ◌%◌, Some, None, Option, refl, ap, subst}
use Rattle.terms.specs.declared.symbol.Symbol.{Symbol}
use Rattle.terms.specs.declared.symbol.Symbol.TheVariants.{Variable, Instrument, Operator}
use Rattle.terms.specs.Term.{Term, variable, instrument, apply, Terms, nil, cons}
use Rattle.terms.specs.Substitution.{fill_all, renamed}
use Rattle.terms.specs.View.{Answers, Stands, StandFrom, renamed_symbol, renamed_answers}
use Rattle.terms.specs.Laws.{OneAtAPlace, RenamedStand}

-- at most one term at a place
mutual
  pub one_at_a_place : OneAtAPlace
  one_at_a_place v p (variable x) (variable y) a b = cc (a.0, b.0)
  one_at_a_place v p (variable x) (instrument n) a b = cc (a.0, b.0)
  one_at_a_place v p (variable x) (apply f ts) a b = cc (a.0, b.0)
  one_at_a_place v p (instrument n) (variable y) a b = cc (a.0, b.0)
  one_at_a_place v p (instrument n) (instrument m) a b = cc (a.0, b.0)
  one_at_a_place v p (instrument n) (apply f ts) a b = cc (a.0, b.0)
  one_at_a_place v p (apply f ts) (variable y) a b = cc (a.0, b.0)
  one_at_a_place v p (apply f ts) (instrument m) a b = cc (a.0, b.0)
  one_at_a_place v p (apply f ts) (apply g us) a b = cc (a.0, b.0, one_row v p 0 ts us a.1 b.1)

  one_row : (v : Answers) (p k : ℕ) (ts us : Terms) → StandFrom v p k ts → StandFrom v p k us → ts ≡ us
  one_row v p k nil nil a b = refl
  one_row v p k nil (cons u us) a b = cc (a, b.1)
  one_row v p k (cons t ts) nil a b = cc (b, a.1)
  one_row v p k (cons t ts) (cons u us) a b =
      let q : a.0 ≡ b.0 = cc (a.1, b.1) in
      cc (one_at_a_place v b.0 t u (subst (λ n. Stands v n t) q a.2) b.2, one_row v p (suc k) ts us a.3 b.3)

-- a renamed view has the renamed terms
mutual
  stands_renamed : (v : Answers) (p : ℕ) (t : Term) → Stands v p t → Stands (renamed_answers v) p (renamed t)
  stands_renamed v p (variable x) h = (ap renamed_symbol h.0, h.1)
  stands_renamed v p (instrument n) h = (ap renamed_symbol h.0, h.1)
  stands_renamed v p (apply f ts) h = (ap renamed_symbol h.0, row_renamed v p 0 ts h.1)

  row_renamed : (v : Answers) (p k : ℕ) (ts : Terms) → StandFrom v p k ts → StandFrom (renamed_answers v) p k (fill_all (λ x. variable ((x + 8) % 16)) ts)
  row_renamed v p k nil h = h
  row_renamed v p k (cons t ts) h = (h.0, h.1, stands_renamed v h.0 t h.2, row_renamed v p (suc k) ts h.3)

-- and no others
before_variable : (o : Option Symbol) (y : ℕ) → renamed_symbol o ≡ Some (Variable y) → (x : ℕ) × (o ≡ Some (Variable x)) × (y ≡ (x + 8) % 16)
before_variable None y e = cc
before_variable (Some (Variable x)) y e = (x, refl, cc)
before_variable (Some (Instrument n)) y e = cc
before_variable (Some (Operator f)) y e = cc

before_instrument : (o : Option Symbol) (n : ℕ) → renamed_symbol o ≡ Some (Instrument n) → o ≡ Some (Instrument n)
before_instrument None n e = e
before_instrument (Some (Variable x)) n e = cc
before_instrument (Some (Instrument m)) n e = e
before_instrument (Some (Operator f)) n e = e

before_operator : (o : Option Symbol) (f : ℕ) → renamed_symbol o ≡ Some (Operator f) → o ≡ Some (Operator f)
before_operator None f e = e
before_operator (Some (Variable x)) f e = cc
before_operator (Some (Instrument m)) f e = e
before_operator (Some (Operator g)) f e = e

mutual
  stood_before : (v : Answers) (p : ℕ) (u : Term) → Stands (renamed_answers v) p u → (t : Term) × Stands v p t × (u ≡ renamed t)
  stood_before v p (variable y) h = let (x, e, q) = before_variable (v.symbol p) y h.0 in (variable x, (e, h.1), ap variable q)
  stood_before v p (instrument n) h = (instrument n, (before_instrument (v.symbol p) n h.0, h.1), refl)
  stood_before v p (apply f us) h = let (ts, s, e) = row_before v p 0 us h.1 in (apply f ts, (before_operator (v.symbol p) f h.0, s), ap (apply f) e)

  row_before : (v : Answers) (p k : ℕ) (us : Terms) → StandFrom (renamed_answers v) p k us → (ts : Terms) × StandFrom v p k ts × (us ≡ fill_all (λ x. variable ((x + 8) % 16)) ts)
  row_before v p k nil h = (nil, h, refl)
  row_before v p k (cons u us) h =
      let (t, s, e) = stood_before v h.0 u h.2 in
      let (ts, r, q) = row_before v p (suc k) us h.3 in
      (cons t ts, (h.0, h.1, s, r), cc)

pub renamed_stand : (v : Answers) → RenamedStand v
renamed_stand v p = (stands_renamed v p, stood_before v p)
