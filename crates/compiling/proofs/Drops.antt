-- The numbers at which variables stand that the right side does not have.
use Rattle.std.proofs.Common.{◌≡◌, ℕ, suc, ◌+◌, ◌<◌, ◌≤◌, Bool, true, false, cond, List, [], ◌∷◌, ◌++◌, length, map, take, drop, get_or, refl, sym, ap, ◌∙◌, arith}
use Rattle.std.proofs.lemmas.List.{append-nil, map-append, map_more, length-append, length-map, length-take, take_all, take-append-drop}
use Rattle.fixed_vec.specs.FixedVec.{items}
use Rattle.terms.specs.declared.symbol.Symbol.{Symbol}
use Rattle.terms.specs.declared.symbol.Symbol.TheVariants.{Variable, Instrument, Operator}
use Rattle.terms.specs.Term.{Term, variable, instrument, apply}
use Rattle.terms.specs.Rule.{Rule}
use Rattle.compiled.specs.Symbols.{parts_under, has_variable}
use Rattle.compiled.specs.Plans.{dropped_from}
use Rattle.compiling.specs.Compilable.{Linear}
use Rattle.compiling.specs.declared.outline.Part.{Part}
use Rattle.compiling.specs.declared.outline.Outline.{Outline}
use Rattle.compiling.specs.Outlines.{OutlinesRule, alone, leaf}
use Rattle.compiling.proofs.Outlines.{dropped_outlined, parts_outlined}
use Rattle.compiling.proofs.Variables.{variables, few_variables}

cond_append : (b : Bool) (k : ℕ) (ks ls : List ℕ) → cond b (ks ++ ls) (k ∷ (ks ++ ls)) ≡ cond b ks (k ∷ ks) ++ ls
cond_append true k ks ls = refl
cond_append false k ks ls = refl

module _ (right : List Term) where
  dropped-append : (k : ℕ) (ts us : List Term) → dropped_from k (ts ++ us) right ≡ dropped_from k ts right ++ dropped_from (k + length ts) us right
  dropped-append k [] us = ap (λ n. dropped_from n us right) (omega arith)
  dropped-append k (variable x ∷ ts) us =
      let rest : suc k + length ts ≡ k + suc (length ts) = omega arith in
      let more = dropped-append (suc k) ts us ∙ ap (λ n. dropped_from (suc k) ts right ++ dropped_from n us right) rest in
      (λ i. cond (has_variable x right) (more i) (k ∷ more i)) ∙ cond_append (has_variable x right) k (dropped_from (suc k) ts right) (dropped_from (k + suc (length ts)) us right)
  dropped-append k (instrument n ∷ ts) us = dropped-append (suc k) ts us ∙ ap (λ n. dropped_from (suc k) ts right ++ dropped_from n us right) (omega arith)
  dropped-append k (apply f vs ∷ ts) us = dropped-append (suc k) ts us ∙ ap (λ n. dropped_from (suc k) ts right ++ dropped_from n us right) (omega arith)

  length-cond : (b : Bool) (k : ℕ) (ks : List ℕ) → length (cond b ks (k ∷ ks)) ≤ suc (length ks)
  length-cond true k ks = omega arith
  length-cond false k ks = omega arith

  few_dropped : (k : ℕ) (ts : List Term) → length (dropped_from k ts right) ≤ variables ts
  few_dropped k [] = omega arith
  few_dropped k (variable x ∷ ts) = omega (arith, length-cond (has_variable x right) k (dropped_from (suc k) ts right), few_dropped (suc k) ts)
  few_dropped k (instrument n ∷ ts) = few_dropped (suc k) ts
  few_dropped k (apply f us ∷ ts) = few_dropped (suc k) ts

  -- of the first so many parts
  abbrev pub so_far : List Part → ℕ → List ℕ
  so_far ps i = dropped_from 0 (map leaf (take i ps)) right

  more_dropped : (ps : List Part) (i : ℕ) (d : Part) → i < length ps → so_far ps (i + 1) ≡ so_far ps i ++ dropped_from i (leaf (get_or ps i d) ∷ []) right
  more_dropped ps i d l =
      let many : 0 + length (map leaf (take i ps)) ≡ i = omega (arith, length-map (take i ps) leaf, length-take i ps) in
      ap (λ ts. dropped_from 0 ts right) (map_more leaf ps i d l)
      ∙ dropped-append 0 (map leaf (take i ps)) (leaf (get_or ps i d) ∷ [])
      ∙ ap (λ k. so_far ps i ++ dropped_from k (leaf (get_or ps i d) ∷ []) right) many

  -- one part more, read from the same list: a variable that is not there, one that is, or no variable
  module _ (ps qs : List Part) (same : qs ≡ ps) (i : ℕ) (d : Part) (l : i < length qs) where
    read : (s : Symbol) → (get_or qs i d).symbol ≡ s → so_far ps (i + 1) ≡ so_far ps i ++ dropped_from i (alone s ∷ []) right
    read s e =
        more_dropped ps i d (omega (arith, l, ap length same))
        ∙ ap (λ z. so_far ps i ++ dropped_from i (alone z ∷ []) right) (ap (λ xs. (get_or xs i d).symbol) (sym same) ∙ e)

    pub one_dropped : (x : ℕ) → (get_or qs i d).symbol ≡ Variable x → has_variable x right ≡ false → so_far ps (i + 1) ≡ so_far ps i ++ i ∷ []
    one_dropped x e absent = read (Variable x) e ∙ ap (λ b. so_far ps i ++ cond b [] (i ∷ [])) absent

    pub one_kept : (x : ℕ) → (get_or qs i d).symbol ≡ Variable x → has_variable x right ≡ true → so_far ps (i + 1) ≡ so_far ps i
    one_kept x e there = read (Variable x) e ∙ ap (λ b. so_far ps i ++ cond b [] (i ∷ [])) there ∙ append-nil (so_far ps i)

    no_variable : (s : Symbol) → ((x : ℕ) → s ≡ Variable x → ⊥) → dropped_from i (alone s ∷ []) right ≡ []
    no_variable (Variable x) h = absurd (h x refl)
    no_variable (Instrument n) h = refl
    no_variable (Operator f) h = refl

    pub one_plain : ((x : ℕ) → (get_or qs i d).symbol ≡ Variable x → ⊥) → so_far ps (i + 1) ≡ so_far ps i
    one_plain h = read (get_or qs i d).symbol refl ∙ ap (λ ks. so_far ps i ++ ks) (no_variable (get_or qs i d).symbol h) ∙ append-nil (so_far ps i)

  part_dropped : (ps : List Part) (i : ℕ) → length (so_far ps i) ≤ length (dropped_from 0 (map leaf ps) right)
  part_dropped ps i =
      let split : map leaf (take i ps) ++ map leaf (drop i ps) ≡ map leaf ps = sym (map-append leaf (take i ps) (drop i ps)) ∙ ap (map leaf) (take-append-drop i ps) in
      let whole = sym (dropped-append 0 (map leaf (take i ps)) (map leaf (drop i ps))) ∙ ap (λ ts. dropped_from 0 ts right) split in
      omega (arith, ap length whole, length-append (so_far ps i) (dropped_from (0 + length (map leaf (take i ps))) (map leaf (drop i ps)) right))

-- of a rule whose sides have these outlines
module _ (r : Rule) (left right : Outline) (of : OutlinesRule r left right) where
  pub seen : (x n : ℕ) → n ≡ length (items right.others) → has_variable x (take (n + 1) (r.right ∷ parts_under r.right)) ≡ has_variable x (r.right ∷ parts_under r.right)
  seen x n e = ap (has_variable x) (take_all (n + 1) (r.right ∷ parts_under r.right) (omega (arith, e, parts_outlined r.right right of.right_is)))

  pub few_so_far : Linear r.left → (i : ℕ) → length (so_far (r.right ∷ parts_under r.right) (items left.others) i) ≤ 8
  few_so_far linear i =
      let us = r.right ∷ parts_under r.right in
      omega (arith, part_dropped us (items left.others) i, ap length (dropped_outlined r.left left of.left_is us), few_dropped us 0 (parts_under r.left), few_variables r.left linear)

  pub all_dropped : (i : ℕ) → length (items left.others) ≤ i → so_far (r.right ∷ parts_under r.right) (items left.others) i ≡ dropped_from 0 (parts_under r.left) (r.right ∷ parts_under r.right)
  all_dropped i all =
      let us = r.right ∷ parts_under r.right in
      ap (λ ps. dropped_from 0 (map leaf ps) us) (take_all i (items left.others) all) ∙ dropped_outlined r.left left of.left_is us
