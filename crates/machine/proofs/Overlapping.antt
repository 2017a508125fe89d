-- The overlaps are tested one by one: what the first refusal says, and what none says.
use Rattle.std.proofs.Common.{◌≡◌, refl, sym, ◌∙◌, ap, subst, ◌⊎◌, inl, inr, Bool, true, false, cond, ◌||◌, ◌&&◌, List, [], ◌∷◌, true≢false, length, slice_index_or, Contains, AllPairs, Some, None, Option, ℕ, zero, suc, ◌<◌, eqb, eqb-true, eq-eqb, arith}
use Rattle.std.proofs.lemmas.List.{get_or_default}
use Rattle.std.proofs.Math.Option.{none, some, Option as Maybe}
use Rattle.std.proofs.Math.Decide.{ℕ_discrete, dec_lt}
use Rattle.terms.specs.Term.{Term, variable, instrument, apply}
use Rattle.terms.specs.Substitution.{renamed}
use Rattle.terms.specs.Position.{Position, part_at}
use Rattle.terms.specs.Rule.{Rule}
use Rattle.rewriting.specs.Rules.{left_of}
use Rattle.rewriting.specs.Bindings.{Bindings}
use Rattle.rewriting.specs.Next.{Before}
use Rattle.rewriting.specs.Positions.{positions}
use Rattle.rewriting.specs.Unifier.{unifier, IsVariable, Overlap, first_side, second_side}
use Rattle.rewriting.proofs.Listing.{positions_are_listed}
use Rattle.reading.specs.declared.refusal.Refusal.{Refusal}
use Rattle.machine.proofs.Table.{None_Some}
use Rattle.machine.specs.Admission.{or_else, first_below, first_in, sides_refusal, is_variable, is_root, unified_refusal, part_refusal, overlap_refusal, overlaps_refusal}
use Rattle.machine.specs.Overlapping.{AllPass, Sooner, FirstRefused, OverlapsTested}

-- ---- no refusal

pub neither : (p q : Option Refusal) → or_else p q ≡ None → (p ≡ None) × (q ≡ None)
neither None q e = (refl, e)
neither (Some r) q e = absurd (None_Some (sym e))

none_below : (n : ℕ) (f : ℕ → Option Refusal) → first_below n f ≡ None → (k : ℕ) → k < n → f k ≡ None
none_below zero f e k h = absurd (omega arith)
none_below (suc n) f e k h = go (none_below n f (neither (first_below n f) (f n) e).0 k) (ℕ_discrete k n)
  where
    go : (k < n → f k ≡ None) → Dec (k ≡ n) → f k ≡ None
    go rec (yes q) = ap f q ∙ (neither (first_below n f) (f n) e).1
    go rec (no q) = rec (omega arith)

none_in : {A : Type 0} (as' : List A) (f : A → Option Refusal) → first_in as' f ≡ None → (a : A) → Contains as' a → f a ≡ None
none_in {A} as' f e a c = go as' e c.0 c.1 c.2
  where
    go : (as' : List A) → first_in as' f ≡ None → (k : ℕ) → k < length as' → slice_index_or as' k a ≡ a → f a ≡ None
    go [] e k h q = absurd (omega arith)
    go (b ∷ as') e zero h q = ap f (sym q) ∙ (neither (f b) (first_in as' f) e).0
    go (b ∷ as') e (suc k) h q = go as' (neither (f b) (first_in as' f) e).1 k (omega arith) q

-- ---- the first refusal

-- of two, the refusal of the first, or of the second if the first has none
either : (p q : Option Refusal) (r : Refusal) → or_else p q ≡ Some r → (p ≡ Some r) ⊎ ((p ≡ None) × (q ≡ Some r))
either None q r e = inr (refl, e)
either (Some s) q r e = inl e

record FirstBelow (n : ℕ) (f : ℕ → Option Refusal) (r : Refusal) : Type 0 where
  number : ℕ
  below : number < n
  refused : f number ≡ Some r
  earlier : (k : ℕ) → k < number → f k ≡ None

some_below : (n : ℕ) (f : ℕ → Option Refusal) (r : Refusal) → first_below n f ≡ Some r → FirstBelow n f r
some_below zero f r e = absurd (None_Some e)
some_below (suc n) f r e = go (some_below n f r) (either (first_below n f) (f n) r e)
  where
    go : (first_below n f ≡ Some r → FirstBelow n f r) → (first_below n f ≡ Some r) ⊎ ((first_below n f ≡ None) × (f n ≡ Some r)) → FirstBelow (suc n) f r
    go rec (inl p) = let a = rec p in record { number = a.number; below = let h = a.below in omega arith; refused = a.refused; earlier = a.earlier }
    go rec (inr (p, q)) = record { number = n; below = omega arith; refused = q; earlier = none_below n f p }

record FirstIn (ps : List Position) (f : Position → Option Refusal) (r : Refusal) : Type 0 where
  number : ℕ
  below : number < length ps
  refused : f (slice_index_or ps number []) ≡ Some r
  earlier : (k : ℕ) → k < number → f (slice_index_or ps k []) ≡ None

some_in : (ps : List Position) (f : Position → Option Refusal) (r : Refusal) → first_in ps f ≡ Some r → FirstIn ps f r
some_in [] f r e = absurd (None_Some e)
some_in (p ∷ ps) f r e = go (some_in ps f r) (either (f p) (first_in ps f) r e)
  where
    go : (first_in ps f ≡ Some r → FirstIn ps f r) → (f p ≡ Some r) ⊎ ((f p ≡ None) × (first_in ps f ≡ Some r)) → FirstIn (p ∷ ps) f r
    go rec (inl q) = record { number = 0; below = omega arith; refused = q; earlier = λ k h. absurd (omega arith) }
    go rec (inr (q, w)) = let a = rec w in record { number = suc a.number; below = let h = a.below in omega arith; refused = a.refused; earlier = earlier a }
      where
        earlier : (a : FirstIn ps f r) (k : ℕ) → k < suc a.number → f (slice_index_or (p ∷ ps) k []) ≡ None
        earlier a zero h = q
        earlier a (suc k) h = a.earlier k (omega arith)

-- ---- reading order

not_back : (p q : Position) → Before p q → Before q p → ⊥
not_back p [] h k = h
not_back [] (j ∷ q) h k = k
not_back (i ∷ p) (j ∷ q) (inl h) (inl k) = omega arith
not_back (i ∷ p) (j ∷ q) (inl h) (inr k) = let e = k.0 in omega arith
not_back (i ∷ p) (j ∷ q) (inr h) (inl k) = let e = h.0 in omega arith
not_back (i ∷ p) (j ∷ q) (inr h) (inr k) = not_back p q h.1 k.1

-- what comes before a listed position, and is listed, has a smaller number
numbered_sooner : (ps : List Position) → AllPairs Before ps → (j k : ℕ) → j < length ps → k < length ps → Before (slice_index_or ps j []) (slice_index_or ps k []) → j < k
numbered_sooner ps ordered j k hj hk before = go (dec_lt j k) (ℕ_discrete j k)
  where
    go : Dec (j < k) → Dec (j ≡ k) → j < k
    go (yes h) o = h
    go (no h) (yes e) = absurd (not_back (slice_index_or ps k []) (slice_index_or ps k []) (subst (λ z. Before (slice_index_or ps z []) (slice_index_or ps k [])) e before) (subst (λ z. Before (slice_index_or ps z []) (slice_index_or ps k [])) e before))
    go (no h) (no n) = absurd (not_back (slice_index_or ps j []) (slice_index_or ps k []) before (ordered k j [] (omega arith) hj))

-- two positions are one, or one comes before the other
reading_order : (p q : Position) → Before p q ⊎ ((p ≡ q) ⊎ Before q p)
reading_order [] [] = inr (inl refl)
reading_order [] (k ∷ q) = inl tt
reading_order (i ∷ p) [] = inr (inr tt)
reading_order (i ∷ p) (k ∷ q) = go (dec_lt i k) (dec_lt k i) (reading_order p q)
  where
    go : Dec (i < k) → Dec (k < i) → Before p q ⊎ ((p ≡ q) ⊎ Before q p) → Before (i ∷ p) (k ∷ q) ⊎ (((i ∷ p) ≡ (k ∷ q)) ⊎ Before (k ∷ q) (i ∷ p))
    go (yes h) o w = inl (inl h)
    go (no h) (yes l) w = inr (inr (inl l))
    go (no h) (no l) (inl w) = inl (inr (omega arith, w))
    go (no h) (no l) (inr (inl w)) = let e : i ≡ k = omega arith in inr (inl (λ t. e t ∷ w t))
    go (no h) (no l) (inr (inr w)) = inr (inr (inr (omega arith, w)))

abbrev Compared : ℕ → ℕ → Position → ℕ → ℕ → Position → Type 0
Compared i j p k l q = Sooner i j p k l q ⊎ (((i ≡ k) × (j ≡ l) × (p ≡ q)) ⊎ Sooner k l q i j p)

compared : (i j : ℕ) (p : Position) (k l : ℕ) (q : Position) → Compared i j p k l q
compared i j p k l q = go (dec_lt i k) (dec_lt k i) (dec_lt j l) (dec_lt l j) (reading_order p q)
  where
    go : Dec (i < k) → Dec (k < i) → Dec (j < l) → Dec (l < j) → Before p q ⊎ ((p ≡ q) ⊎ Before q p) → Compared i j p k l q
    go (yes h) a b c w = inl (inl h)
    go (no h) (yes a) b c w = inr (inr (inl a))
    go (no h) (no a) (yes b) c w = inl (inr (omega arith, inl b))
    go (no h) (no a) (no b) (yes c) w = inr (inr (inr (omega arith, inl c)))
    go (no h) (no a) (no b) (no c) (inl w) = inl (inr (omega arith, inr (omega arith, w)))
    go (no h) (no a) (no b) (no c) (inr (inl w)) = inr (inl (omega arith, omega arith, w))
    go (no h) (no a) (no b) (no c) (inr (inr w)) = inr (inr (inr (omega arith, inr (omega arith, w))))

-- ---- overlaps

no_variable : (b : Term) → (IsVariable b → ⊥) → is_variable b ≡ false
no_variable (variable x) h = absurd (h tt)
no_variable (instrument n) h = refl
no_variable (apply f ts) h = refl

not_itself : (outer inner : ℕ) (p : Position) → (outer ≡ inner → p ≡ [] → ⊥) → (eqb outer inner && is_root p) ≡ false
not_itself outer inner p h = go p h (eqb outer inner) refl
  where
    go : (p : Position) → (outer ≡ inner → p ≡ [] → ⊥) → (b : Bool) → eqb outer inner ≡ b → (b && is_root p) ≡ false
    go p h false e = refl
    go [] h true e = absurd (h (eqb-true outer inner e) refl)
    go (k ∷ p) h true e = refl

module _ (rules : List Rule) (nodes : ℕ) where
  abbrev sides : ℕ → ℕ → Position → Bindings → Option Refusal
  sides outer inner p m = sides_refusal rules nodes outer inner (first_side rules outer m) (second_side rules outer inner p m)

  abbrev by_position : ℕ → ℕ → Option Refusal
  by_position outer inner = first_in (positions (left_of rules outer)) (overlap_refusal rules nodes outer inner)

  abbrev by_inner : ℕ → Option Refusal
  by_inner outer = first_below (length rules) (by_position outer)

  -- where there is an overlap, it is tested
  at_overlap : (outer inner : ℕ) (p : Position) (m : Bindings) → Overlap rules outer inner p m → overlap_refusal rules nodes outer inner p ≡ sides outer inner p m
  at_overlap outer inner p m o =
      ap (part_refusal rules nodes outer inner p) o.stands
      ∙ clear (is_variable o.part) (eqb outer inner && is_root p) (unified_refusal rules nodes outer inner p (unifier o.part (renamed (left_of rules inner)))) (no_variable o.part o.no_variable) (not_itself outer inner p o.not_itself)
      ∙ ap (unified_refusal rules nodes outer inner p) o.unified
    where
      clear : (a b : Bool) (q : Option Refusal) → a ≡ false → b ≡ false → cond (a || b) None q ≡ q
      clear true b q x y = absurd (true≢false x)
      clear false true q x y = absurd (true≢false y)
      clear false false q x y = refl

  -- and where there is a refusal there is an overlap
  record Refused (outer inner : ℕ) (p : Position) (r : Refusal) : Type 0 where
    bindings : Bindings
    overlap : Overlap rules outer inner p bindings
    refused : sides outer inner p bindings ≡ Some r

  overlap_there : (outer inner : ℕ) (p : Position) (r : Refusal) → outer < length rules → inner < length rules → overlap_refusal rules nodes outer inner p ≡ Some r → Refused outer inner p r
  overlap_there outer inner p r ho hi e = at_part (part_at (left_of rules outer) p) refl e
    where
      at_unifier : (b : Term) → part_at (left_of rules outer) p ≡ some b → (IsVariable b → ⊥) → (outer ≡ inner → p ≡ [] → ⊥) → (u : Maybe Bindings) → unifier b (renamed (left_of rules inner)) ≡ u → unified_refusal rules nodes outer inner p u ≡ Some r → Refused outer inner p r
      at_unifier b s v i none q e = absurd (None_Some e)
      at_unifier b s v i (some m) q e = record { bindings = m; overlap = record { outer_known = ho; inner_known = hi; part = b; stands = s; no_variable = v; not_itself = i; unified = q }; refused = e }

      at_tests : (b : Term) → part_at (left_of rules outer) p ≡ some b → (x y : Bool) → is_variable b ≡ x → (eqb outer inner && is_root p) ≡ y
          → cond (x || y) None (unified_refusal rules nodes outer inner p (unifier b (renamed (left_of rules inner)))) ≡ Some r → Refused outer inner p r
      at_tests b s true y q w e = absurd (None_Some e)
      at_tests b s false true q w e = absurd (None_Some e)
      at_tests b s false false q w e = at_unifier b s (none_there b q) (apart p w) (unifier b (renamed (left_of rules inner))) refl e
        where
          none_there : (b : Term) → is_variable b ≡ false → IsVariable b → ⊥
          none_there (variable x) q h = true≢false q
          none_there (instrument n) q h = h
          none_there (apply f ts) q h = h

          apart : (p : Position) → (eqb outer inner && is_root p) ≡ false → outer ≡ inner → p ≡ [] → ⊥
          apart p w i z = let k : (eqb outer inner && is_root p) ≡ true = rw (eq-eqb outer inner i) (ap is_root z) in true≢false (sym k ∙ w)

      at_part : (o : Maybe Term) → part_at (left_of rules outer) p ≡ o → part_refusal rules nodes outer inner p o ≡ Some r → Refused outer inner p r
      at_part none s e = absurd (None_Some e)
      at_part (some b) s e = at_tests b s (is_variable b) (eqb outer inner && is_root p) refl refl e

  -- ---- all of them

  none_passes : overlaps_refusal rules nodes ≡ None → AllPass rules nodes
  none_passes e outer inner p m o =
      let below_outer = none_below (length rules) by_inner e outer o.outer_known in
      let below_inner = none_below (length rules) (by_position outer) below_outer inner o.inner_known in
      sym (at_overlap outer inner p m o) ∙ none_in (positions (left_of rules outer)) (overlap_refusal rules nodes outer inner) below_inner p ((positions_are_listed (left_of rules outer)).all p o.part o.stands)

  first_refused : (r : Refusal) → overlaps_refusal rules nodes ≡ Some r → FirstRefused rules nodes r
  first_refused r e =
      let a = some_below (length rules) by_inner r e in
      let b = some_below (length rules) (by_position a.number) r a.refused in
      let ps = positions (left_of rules a.number) in
      let c = some_in ps (overlap_refusal rules nodes a.number b.number) r b.refused in
      let w = overlap_there a.number b.number (slice_index_or ps c.number []) r a.below b.below c.refused in
      record { outer = a.number; inner = b.number; position = slice_index_or ps c.number []; bindings = w.bindings; overlap = w.overlap; refused = w.refused; sooner_pass = sooner a b c }
    where
      sooner : (a : FirstBelow (length rules) by_inner r) (b : FirstBelow (length rules) (by_position a.number) r) (c : FirstIn (positions (left_of rules a.number)) (overlap_refusal rules nodes a.number b.number) r)
          → (i j : ℕ) (p : Position) (m : Bindings) → Overlap rules i j p m → Sooner i j p a.number b.number (slice_index_or (positions (left_of rules a.number)) c.number []) → sides i j p m ≡ None
      sooner a b c i j p m o (inl h) =
          let x = none_below (length rules) (by_position i) (a.earlier i h) j o.inner_known in
          sym (at_overlap i j p m o) ∙ none_in (positions (left_of rules i)) (overlap_refusal rules nodes i j) x p ((positions_are_listed (left_of rules i)).all p o.part o.stands)
      sooner a b c i j p m o (inr (e, inl h)) =
          let x = subst (λ z. by_position z j ≡ None) (sym e) (b.earlier j h) in
          sym (at_overlap i j p m o) ∙ none_in (positions (left_of rules i)) (overlap_refusal rules nodes i j) x p ((positions_are_listed (left_of rules i)).all p o.part o.stands)
      sooner a b c i j p m o (inr (e, inr (f, h))) = sym (at_overlap i j p m o) ∙ (λ t. overlap_refusal rules nodes (e t) (f t) p) ∙ here
        where
          listed : Contains (positions (left_of rules a.number)) p
          listed = subst (λ z. Contains (positions (left_of rules z)) p) e ((positions_are_listed (left_of rules i)).all p o.part o.stands)

          same : slice_index_or (positions (left_of rules a.number)) listed.0 [] ≡ p
          same = get_or_default (positions (left_of rules a.number)) listed.0 [] p listed.1 ∙ listed.2

          here : overlap_refusal rules nodes a.number b.number p ≡ None
          here =
              let k = numbered_sooner (positions (left_of rules a.number)) (positions_are_listed (left_of rules a.number)).in_order listed.0 c.number listed.1 c.below (subst (λ z. Before z (slice_index_or (positions (left_of rules a.number)) c.number [])) (sym same) h) in
              ap (overlap_refusal rules nodes a.number b.number) (sym same) ∙ c.earlier listed.0 k

  -- ---- there is one first

  tested_there : {r : Refusal} (v : FirstRefused rules nodes r) → overlap_refusal rules nodes v.outer v.inner v.position ≡ Some r
  tested_there v = at_overlap v.outer v.inner v.position v.bindings v.overlap ∙ v.refused

  one_first : (q r : Refusal) → FirstRefused rules nodes q → FirstRefused rules nodes r → q ≡ r
  one_first q r v w = go (compared v.outer v.inner v.position w.outer w.inner w.position)
    where
      some_inj : Some q ≡ Some r → q ≡ r
      some_inj e = cc

      go : Compared v.outer v.inner v.position w.outer w.inner w.position → q ≡ r
      go (inl h) = absurd (None_Some (sym (w.sooner_pass v.outer v.inner v.position v.bindings v.overlap h) ∙ v.refused))
      go (inr (inl (e, f, g))) = some_inj (sym (tested_there v) ∙ (λ t. overlap_refusal rules nodes (e t) (f t) (g t)) ∙ tested_there w)
      go (inr (inr h)) = absurd (None_Some (sym (v.sooner_pass w.outer w.inner w.position w.bindings w.overlap h) ∙ w.refused))

  pass_none : AllPass rules nodes → overlaps_refusal rules nodes ≡ None
  pass_none all = go (overlaps_refusal rules nodes) refl
    where
      go : (o : Option Refusal) → overlaps_refusal rules nodes ≡ o → overlaps_refusal rules nodes ≡ None
      go None e = e
      go (Some r) e = let v = first_refused r e in absurd (None_Some (sym (all v.outer v.inner v.position v.bindings v.overlap) ∙ v.refused))

  refused_some : (r : Refusal) → FirstRefused rules nodes r → overlaps_refusal rules nodes ≡ Some r
  refused_some r w = go (overlaps_refusal rules nodes) refl
    where
      go : (o : Option Refusal) → overlaps_refusal rules nodes ≡ o → overlaps_refusal rules nodes ≡ Some r
      go None e = absurd (None_Some (sym (none_passes e w.outer w.inner w.position w.bindings w.overlap) ∙ w.refused))
      go (Some q) e = e ∙ ap Some (one_first q r (first_refused q e) w)

  pub overlaps_tested : OverlapsTested rules nodes
  overlaps_tested = record { passed = (none_passes, pass_none); refused = λ r. (first_refused r, refused_some r) }
