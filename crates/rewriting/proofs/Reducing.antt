-- Newman's lemma, the Church-Rosser property and uniqueness of normal forms, for any relation.
use Rattle.std.proofs.Common.{◌≡◌, refl, sym, ◌∙◌, subst, ℕ, suc, inl, inr}
use Rattle.rewriting.specs.Reduction.{Reduces, done, more, Joinable, Normal, Ends, ends, Conversion, alone, on}

pub reduces_map : {A B : Type 0} {R : A → A → Type 0} {S : B → B → Type 0} (f : A → B) → ((a b : A) → R a b → S (f a) (f b)) → {a b : A} → Reduces R a b → Reduces S (f a) (f b)
reduces_map f h done = done
reduces_map f h (more r p) = more (h _ _ r) (reduces_map f h p)

pub reduces_trans : {A : Type 0} {R : A → A → Type 0} {a b c : A} → Reduces R a b → Reduces R b c → Reduces R a c
reduces_trans done q = q
reduces_trans (more r p) q = more r (reduces_trans p q)

pub one_step : {A : Type 0} {R : A → A → Type 0} {a b : A} → R a b → Reduces R a b
one_step r = more r done

pub join_sym : {A : Type 0} {R : A → A → Type 0} {a b : A} → Joinable R a b → Joinable R b a
join_sym j = (j.0, j.2, j.1)

module _ {A : Type 0} {R : A → A → Type 0} where
  pub newman : ((a b c : A) → R a b → R a c → Joinable R b c) → {a : A} → Ends R a → {b c : A} → Reduces R a b → Reduces R a c → Joinable R b c
  newman w (ends h) {b} {c} done q = (c, q, done)
  newman w (ends h) {b} {c} (more r p) done = (b, done, more r p)
  newman w (ends {a} h) (more {b = b₁} r p) (more {b = c₁} r' q) =
      let (d, x, y) = w a b₁ c₁ r r' in
      let (e, p', x') = newman w (h b₁ r) p x in
      let (g, z, q') = newman w (h c₁ r') (reduces_trans y x') q in
      (g, reduces_trans p' z, q')

  pub conversion_first : {P : A → Type 0} {a b : A} → Conversion P R a b → P a
  conversion_first (alone h) = h
  conversion_first (on h r c) = h

  pub conversion_last : {P : A → Type 0} {a b : A} → Conversion P R a b → P b
  conversion_last (alone h) = h
  conversion_last (on h r c) = conversion_last c

  -- the two ends of a conversion can be joined
  pub church_rosser : {P : A → Type 0} → ((a b c : A) → R a b → R a c → Joinable R b c) → ((a : A) → P a → Ends R a) → {a b : A} → Conversion P R a b → Joinable R a b
  church_rosser w end (alone {a} h) = (a, done, done)
  church_rosser w end (on h (inl r) c) = let (d, x, y) = church_rosser w end c in (d, more r x, y)
  church_rosser w end (on {b = b} h (inr r) c) =
      let (d, x, y) = church_rosser w end c in
      let (e, u, v) = newman w (end b (conversion_first c)) (one_step r) x in
      (e, u, reduces_trans y v)

  pub normal_end : {a b : A} → Normal R a → Reduces R a b → a ≡ b
  normal_end n done = refl
  normal_end n (more {b = b} r p) = absurd (n b r)

  -- two that can be joined have one normal form
  pub same_normal : ((a b c : A) → R a b → R a c → Joinable R b c) → {a b : A} → Ends R a → Ends R b → Joinable R a b → {x y : A} → Reduces R a x → Normal R x → Reduces R b y → Normal R y → x ≡ y
  same_normal w a b j p n q m =
      let (e, x, d) = newman w a p j.1 in
      let (g, y, k) = newman w b q (reduces_trans j.2 d) in
      normal_end n (reduces_trans x k) ∙ sym (normal_end m y)

  -- what steps lead to from one end of a conversion, and what they lead from, is an end of one too
  pub conversion_along : {P : A → Type 0} → ((a b : A) → R a b → P a → P b) → {a b c : A} → P a → Reduces R a b → Conversion P R b c → Conversion P R a c
  conversion_along keeps h done c = c
  conversion_along keeps {a = a} h (more {b = b} r p) c = on h (inl r) (conversion_along keeps (keeps a b r h) p c)

  pub conversion_from : {P : A → Type 0} → ((a b : A) → R a b → P a → P b) → {a b c : A} → Reduces R a b → Conversion P R a c → Conversion P R b c
  conversion_from keeps done c = c
  conversion_from keeps {a = a} (more {b = b} r p) c = conversion_from keeps p (on (keeps a b r (conversion_first c)) (inr r) c)

  -- where steps end there is no endless list of them
  pub no_endless : {a : A} → Ends R a → (as' : ℕ → A) → as' 0 ≡ a → ((n : ℕ) → R (as' n) (as' (suc n))) → ⊥
  no_endless (ends h) as' e steps = no_endless (h (as' 1) (subst (λ z. R z (as' 1)) e (steps 0))) (λ n. as' (suc n)) refl (λ n. steps (suc n))
