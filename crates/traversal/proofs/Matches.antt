-- The comparison of two terms, symbol by symbol.
use Rattle.std.proofs.Common.{◌≡◌, ◌≢◌, ◌↔◌, ℕ, suc, ◌+◌, ◌<◌, ◌≤◌, true, false, true≢false, IsTrue, List, [], ◌∷◌, length, Some, None, Option, sym, refl, ap, ◌∙◌, subst, arith}
use Rattle.terms.specs.declared.symbol.Symbol.{Symbol}
use Rattle.terms.specs.declared.symbol.Symbol.TheVariants.{Variable, Instrument, Operator}
use Rattle.terms.specs.Term.{Term, variable, instrument, apply, Terms, nil, cons, how_many, symbols_in}
use Rattle.terms.specs.View.{Answers}
use Rattle.traversal.specs.Walks.{most_symbols}
use Rattle.traversal.specs.Rows.{row_of, StandAll}
use Rattle.traversal.specs.Pendings.{OfSize, SomeOfSize}
use Rattle.traversal.specs.Comparing.{ComparedOfSize, SomeLeft, Opened}
use Rattle.traversal.proofs.Rows.{top, under, both, symbols_under, symbols_both, stands_top, stands_under, from_to_all, join, same_length}

-- of a row of terms, the first symbol, and what is left of the row behind it
abbrev first_symbol : Terms → Option Symbol
first_symbol nil = None
first_symbol (cons t ts) = Some (top t)

abbrev behind_first : Terms → Terms
behind_first nil = nil
behind_first (cons t ts) = both (under t) ts

-- a term is its symbol over its arguments
abbrev over : Symbol → Terms → Term
over (Variable x) ts = variable x
over (Instrument n) ts = instrument n
over (Operator f) ts = apply f ts

over_top : (t : Term) → over (top t) (under t) ≡ t
over_top (variable x) = refl
over_top (instrument n) = refl
over_top (apply f ts) = refl

how_many_both : (ts us : Terms) → how_many (both ts us) ≡ how_many ts + how_many us
how_many_both nil us = omega arith
how_many_both (cons t ts) us = let ih = how_many_both ts us in omega arith

same_parts : (ts us xs ys : Terms) → how_many ts ≡ how_many us → both ts xs ≡ both us ys → (ts ≡ us) × (xs ≡ ys)
same_parts nil nil xs ys e h = (refl, h)
same_parts nil (cons u us) xs ys e h = absurd (let z : ⊥ = omega arith in z)
same_parts (cons t ts) nil xs ys e h = absurd (let z : ⊥ = omega arith in z)
same_parts (cons t ts) (cons u us) xs ys e h = let ih = same_parts ts us xs ys (omega arith) (cc) in (cc, ih.1)

-- rows of as many terms are the same if their first symbols are, over as many arguments, and what is left behind them
same_rows : (ts us : Terms) → how_many ts ≡ how_many us → first_symbol ts ≡ first_symbol us → how_many (behind_first ts) ≡ how_many (behind_first us) → behind_first ts ≡ behind_first us → ts ≡ us
same_rows nil nil m s l e = refl
same_rows nil (cons u us) m s l e = absurd (let z : ⊥ = omega arith in z)
same_rows (cons t ts) nil m s l e = absurd (let z : ⊥ = omega arith in z)
same_rows (cons t ts) (cons u us) m s l e =
    let parts = same_parts (under t) (under u) ts us (omega (arith, how_many_both (under t) ts, how_many_both (under u) us)) e in
    cc (over_top t, over_top u, parts.0, parts.1)

-- the first symbol is taken from the terms at the places of a stack
record Opening (v : Answers) (after : List ℕ) (symbol : Option Symbol) (ts : Terms) : Type 0 where
  first : symbol ≡ first_symbol ts
  stand : StandAll v after (behind_first ts)
  fewer : symbols_in ts ≡ suc (symbols_in (behind_first ts))

opening : {v : Answers} {before after : List ℕ} {symbol : Option Symbol} (ts : Terms) → Opened v before after symbol → StandAll v before ts → Opening v after symbol ts
opening {v} {after = after} {symbol} ts o s = at ts (subst (λ l. StandAll v l ts) o.top s)
  where
    at : (ts : Terms) → StandAll v (o.place ∷ o.below) ts → Opening v after symbol ts
    at nil s = absurd s
    at (cons t ts) s =
        let one = symbols_under t in
        let sum = symbols_both (under t) ts in
        record {
          first = o.is ∙ stands_top v o.place t s.0;
          stand =
              subst (λ l. StandAll v l (both (under t) ts)) (sym o.put)
              (join v (row_of v o.place) o.below (under t) ts (from_to_all v o.place 3 0 (under t) o.few (stands_under v o.place t s.0)) s.1);
          fewer = omega arith;
        }

-- terms of m symbols stand at the places of each of two stacks, and t and u are one exactly if those are the same
pub record Rest (v w : Answers) (ps qs : List ℕ) (t u : Term) (m : ℕ) : Type 0 where
  pub ones : Terms
  pub others : Terms
  pub ones_stand : StandAll v ps ones
  pub others_stand : StandAll w qs others
  pub ones_left : symbols_in ones ≡ m
  pub others_left : symbols_in others ≡ m
  pub same : (t ≡ u) ↔ (ones ≡ others)

-- k symbols of two terms of n symbols are compared, and they are the same over as many arguments
pub record Matching (v : Answers) (p : ℕ) (w : Answers) (q n k : ℕ) (ps qs : List ℕ) : Type 0 where
  pub even : length ps ≡ length qs
  pub rest : (t u : Term) → OfSize v p n t → OfSize w q n u → (m : ℕ) × (k + m ≡ n) × Rest v w ps qs t u m

pub at_roots : (v w : Answers) (p q n : ℕ) (ps qs : List ℕ) → ps ≡ p ∷ [] → qs ≡ q ∷ [] → Matching v p w q n 0 ps qs
at_roots v w p q n ps qs e f = record {
  even = ap length e ∙ sym (ap length f);
  rest = λ t u x y. (
    n,
    omega arith,
    record {
      ones = cons t nil;
      others = cons u nil;
      ones_stand = subst (λ l. StandAll v l (cons t nil)) (sym e) (x.0, tt);
      others_stand = subst (λ l. StandAll w l (cons u nil)) (sym f) (y.0, tt);
      ones_left = omega (arith, x.1);
      others_left = omega (arith, y.1);
      same = (ap (λ z. cons z nil), λ h. cc);
    },
  );
}

-- symbols are left at the places of both stacks
pub some_left : {v w : Answers} {p q n k : ℕ} {ps qs : List ℕ} → SomeOfSize v p n → SomeOfSize w q n → k < n → Matching v p w q n k ps qs → SomeLeft v ps × SomeLeft w qs
some_left x y less m =
    let (l, left, r) = m.rest x.term y.term x.is y.is in
    let some : 0 < l = omega (arith, left) in
    let few : l ≤ most_symbols = omega (arith, left, x.few) in
    ((l, (r.ones, r.ones_stand, r.ones_left), some, few), (l, (r.others, r.others_stand, r.others_left), some, few))

-- one more symbol is the same, over as many arguments
pub one_more_same : {v w : Answers} {p q n k : ℕ} {ps qs xs ys : List ℕ} {s r : Option Symbol} → Opened v ps xs s → Opened w qs ys r → s ≡ r → length xs ≡ length ys → Matching v p w q n k ps qs → Matching v p w q n (k + 1) xs ys
one_more_same {v} {w} {ps = ps} {qs} {xs} {ys} o c is even m = record {
  even = even;
  rest = λ t u x y.
      let (l, left, r) = m.rest t u x y in
      let one = opening r.ones o r.ones_stand in
      let other = opening r.others c r.others_stand in
      let many : how_many r.ones ≡ how_many r.others = omega (arith, m.even, same_length v ps r.ones r.ones_stand, same_length w qs r.others r.others_stand) in
      let behind : how_many (behind_first r.ones) ≡ how_many (behind_first r.others) = omega (arith, even, same_length v xs _ one.stand, same_length w ys _ other.stand) in (
        symbols_in (behind_first r.ones),
        omega (arith, left, one.fewer, r.ones_left),
        record {
          ones = behind_first r.ones;
          others = behind_first r.others;
          ones_stand = one.stand;
          others_stand = other.stand;
          ones_left = refl;
          others_left = omega (arith, one.fewer, other.fewer, r.ones_left, r.others_left);
          same = (
            λ e. ap behind_first (r.same.0 e),
            λ e. r.same.1 (same_rows r.ones r.others many (sym one.first ∙ is ∙ other.first) behind e),
          );
        },
      );
}

different : {t u : Term} → t ≢ u → IsTrue false ↔ (t ≡ u)
different n = (λ h. absurd (true≢false (sym h)), λ e. absurd (n e))

-- the next symbols are not the same
pub other_symbols : {v w : Answers} {p q n k : ℕ} {ps qs xs ys : List ℕ} {s r : Option Symbol} → Opened v ps xs s → Opened w qs ys r → s ≢ r → Matching v p w q n k ps qs → ComparedOfSize v p w q n false
other_symbols o c differ m t u x y =
    let r = (m.rest t u x y).2 in
    different (λ e. differ ((opening r.ones o r.ones_stand).first ∙ ap first_symbol (r.same.0 e) ∙ sym (opening r.others c r.others_stand).first))

-- the next symbols are not over as many arguments
pub other_arities : {v w : Answers} {p q n k : ℕ} {ps qs xs ys : List ℕ} {s r : Option Symbol} → Opened v ps xs s → Opened w qs ys r → length xs ≢ length ys → Matching v p w q n k ps qs → ComparedOfSize v p w q n false
other_arities {v} {w} {xs = xs} {ys} o c differ m t u x y =
    let r = (m.rest t u x y).2 in
    different
    (λ e. differ (
    same_length v xs _ (opening r.ones o r.ones_stand).stand
    ∙ ap (λ l. how_many (behind_first l)) (r.same.0 e)
    ∙ sym (same_length w ys _ (opening r.others c r.others_stand).stand)
    ))

-- no symbol is left
pub no_others : {v w : Answers} {p q n k : ℕ} {ps qs : List ℕ} → n ≤ k → Matching v p w q n k ps qs → ComparedOfSize v p w q n true
no_others all m t u x y =
    let (l, left, r) = m.rest t u x y in
    let one = none r.ones (omega (arith, left, r.ones_left)) in
    let other = none r.others (omega (arith, left, r.others_left)) in
    (λ h. r.same.1 (one ∙ sym other), λ e. refl)
  where
    none : (ts : Terms) → symbols_in ts ≡ 0 → ts ≡ nil
    none nil e = refl
    none (cons t ts) e = let one = symbols_under t in absurd (let z : ⊥ = omega arith in z)
