-- An input has at most one text at its front.
use Rattle.std.proofs.Common.{rules, ◌≡◌, ◌≢◌, ℕ, true, not, eqb, List, [], ◌∷◌, ◌++◌, codes, All, sym, refl, ap, ◌∙◌, subst, append_assoc}
use Rattle.std.proofs.lemmas.Bool.{and_parts}
use Rattle.std.proofs.lemmas.List.{append-nil}
use Rattle.std.proofs.lemmas.List.Elements.{All-head, All-tail}
use Rattle.console.specs.Lines.{no_line_end}
use Rattle.console.specs.Fronts.{OrdinaryLine, with_ends, FrontOf, to_dot, to_last_dot, to_end, OneFront}

-- what stands behind whole lines, and what of it belongs to the text
data Stop (input text rest : List ℕ) : Type 0 where
  dot : input ≡ codes "." ++ (10 ∷ rest) → text ≡ [] → Stop input text rest
  last_dot : input ≡ codes "." → text ≡ [] → rest ≡ [] → Stop input text rest
  last_line : OrdinaryLine input → text ≡ input → rest ≡ [] → Stop input text rest

-- a front is whole lines, and what stands behind them
record Parts (input text rest : List ℕ) : Type 0 where
  lines : List (List ℕ)
  each : All OrdinaryLine lines
  behind : List ℕ
  tail : List ℕ
  of_input : input ≡ with_ends lines ++ behind
  of_text : text ≡ with_ends lines ++ tail
  stop : Stop behind tail rest

parts : (input text rest : List ℕ) → FrontOf input text rest → Parts input text rest
parts input text rest (to_dot (ls, each, e) q) = record { lines = ls; each = each; behind = codes "." ++ (10 ∷ rest); tail = []; of_input = q ∙ ap (λ x. x ++ (codes "." ++ (10 ∷ rest))) e; of_text = e ∙ sym (append-nil (with_ends ls)); stop = dot refl refl }
parts input text rest (to_last_dot (ls, each, e) q r) = record { lines = ls; each = each; behind = codes "."; tail = []; of_input = q ∙ ap (λ x. x ++ codes ".") e; of_text = e ∙ sym (append-nil (with_ends ls)); stop = last_dot refl refl r }
parts input text rest (to_end lines last (ls, each, e) h t q r) = let both : text ≡ with_ends ls ++ last = t ∙ ap (λ x. x ++ last) e in record { lines = ls; each = each; behind = last; tail = last; of_input = q ∙ both; of_text = both; stop = last_line h refl r }

-- no line end stands in front of the first
broken_line : (l xs : List ℕ) → no_line_end (l ++ (10 ∷ xs)) ≢ true
broken_line [] xs e = search (rules)
broken_line (b ∷ l) xs e = broken_line l xs (and_parts (not (eqb b 10)) (no_line_end (l ++ (10 ∷ xs))) e).1

first_line : (l m xs ys : List ℕ) → no_line_end l ≡ true → no_line_end m ≡ true → l ++ (10 ∷ xs) ≡ m ++ (10 ∷ ys) → (l ≡ m) × (xs ≡ ys)
first_line [] [] xs ys h k e = (refl, cc)
first_line [] (c ∷ m) xs ys h k e = search rules
first_line (b ∷ l) [] xs ys h k e = search rules
first_line (b ∷ l) (c ∷ m) xs ys h k e =
    let same : b ≡ c = cc in
    let more : l ++ (10 ∷ xs) ≡ m ++ (10 ∷ ys) = cc in
    let (p, q) = first_line l m xs ys (and_parts (not (eqb b 10)) (no_line_end l) h).1 (and_parts (not (eqb c 10)) (no_line_end m) k).1 more in
    (cc, q)

no_stop : (l xs text rest : List ℕ) → OrdinaryLine l → Stop (l ++ (10 ∷ xs)) text rest → ⊥
no_stop l xs text rest h (dot e t) = h.no_dot (first_line l (codes ".") xs rest h.clean refl e).0
no_stop l xs text rest h (last_dot e t r) = broken_line l xs (ap no_line_end e)
no_stop l xs text rest h (last_line k t r) = broken_line l xs k.clean

same_stop : (input text rest text' rest' : List ℕ) → Stop input text rest → Stop input text' rest' → (text ≡ text') × (rest ≡ rest')
same_stop input text rest text' rest' (dot e t) (dot e' t') = (cc, (first_line (codes ".") (codes ".") rest rest' refl refl (sym e ∙ e')).1)
same_stop input text rest text' rest' (dot e t) (last_dot e' t' r') = absurd (broken_line (codes ".") rest (ap no_line_end (sym e ∙ e')))
same_stop input text rest text' rest' (dot e t) (last_line h t' r') = absurd (broken_line (codes ".") rest (ap no_line_end (sym e) ∙ h.clean))
same_stop input text rest text' rest' (last_dot e t r) (dot e' t') = absurd (broken_line (codes ".") rest' (ap no_line_end (sym e' ∙ e)))
same_stop input text rest text' rest' (last_dot e t r) (last_dot e' t' r') = (cc, cc)
same_stop input text rest text' rest' (last_dot e t r) (last_line h t' r') = absurd (h.no_dot e)
same_stop input text rest text' rest' (last_line h t r) (dot e' t') = absurd (broken_line (codes ".") rest' (ap no_line_end (sym e') ∙ h.clean))
same_stop input text rest text' rest' (last_line h t r) (last_dot e' t' r') = absurd (h.no_dot e')
same_stop input text rest text' rest' (last_line h t r) (last_line h' t' r') = (cc, cc)

same_front : (ls ms : List (List ℕ)) → All OrdinaryLine ls → All OrdinaryLine ms → (b c t u r s : List ℕ) → with_ends ls ++ b ≡ with_ends ms ++ c → Stop b t r → Stop c u s → (with_ends ls ++ t ≡ with_ends ms ++ u) × (r ≡ s)
same_front [] [] h k b c t u r s e p q = same_stop b t r u s p (subst (λ x. Stop x u s) (sym e) q)
same_front [] (m ∷ ms) h k b c t u r s e p q = absurd (no_stop m (with_ends ms ++ c) t r (All-head OrdinaryLine m ms k) (subst (λ x. Stop x t r) (e ∙ append_assoc m (10 ∷ with_ends ms) c) p))
same_front (l ∷ ls) [] h k b c t u r s e p q = absurd (no_stop l (with_ends ls ++ b) u s (All-head OrdinaryLine l ls h) (subst (λ x. Stop x u s) (sym e ∙ append_assoc l (10 ∷ with_ends ls) b) q))
same_front (l ∷ ls) (m ∷ ms) h k b c t u r s e p q =
    let (f, g) = first_line l m (with_ends ls ++ b) (with_ends ms ++ c) (All-head OrdinaryLine l ls h).clean (All-head OrdinaryLine m ms k).clean (sym (append_assoc l (10 ∷ with_ends ls) b) ∙ e ∙ append_assoc m (10 ∷ with_ends ms) c) in
    let (i, j) = same_front ls ms (All-tail OrdinaryLine l ls h) (All-tail OrdinaryLine m ms k) b c t u r s g p q in
    (append_assoc l (10 ∷ with_ends ls) t ∙ ap (λ x. x ++ (10 ∷ (with_ends ls ++ t))) f ∙ ap (λ x. m ++ (10 ∷ x)) i ∙ sym (append_assoc m (10 ∷ with_ends ms) u), j)

pub one_front : OneFront
one_front = record {
  same = λ input text rest text' rest' p q.
      let a = parts input text rest p in
      let b = parts input text' rest' q in
      let (e, f) = same_front a.lines b.lines a.each b.each a.behind b.behind a.tail b.tail rest rest' (sym a.of_input ∙ b.of_input) a.stop b.stop in
      (a.of_text ∙ e ∙ sym b.of_text, f);
}
