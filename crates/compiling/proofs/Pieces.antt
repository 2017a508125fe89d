-- The pieces of a right side.
use Rattle.std.proofs.Common.{◌≡◌, ℕ, ◌+◌, ◌<◌, ◌≤◌, Bool, true, false, cond, ◌||◌, List, [], ◌∷◌, ◌++◌, length, map, take, get_or, refl, sym, ap, ◌∙◌, add-one, append_assoc, arith}
use Rattle.std.proofs.lemmas.List.{append-nil, take-map, take_more, take_all}
use Rattle.fixed_vec.specs.FixedVec.{items}
use Rattle.terms.specs.Term.{Term, variable, instrument, apply, Terms, nil, cons}
use Rattle.terms.specs.Rule.{Rule}
use Rattle.compiled.specs.declared.Piece.{Piece}
use Rattle.compiled.specs.declared.Source.TheVariants.{Moved, Copied}
use Rattle.compiled.specs.Symbols.{any, has_arguments, parts_under, is_variable, has_variable, home}
use Rattle.compiled.specs.Plans.{source_of, pieces_of, pieces_under}
use Rattle.compiling.specs.declared.outline.Part.{Part}
use Rattle.compiling.specs.declared.outline.Outline.{Outline}
use Rattle.compiling.specs.Outlines.{part_of, outline_of, outline_under, OutlinesRule, leaf, piece_for}
use Rattle.compiling.proofs.Outlines.{front, fronts_under, is_front, has_front}

-- the same variables are among them
abbrev pub Alike : List Term → List Term → Type 0
Alike ts us = (x : ℕ) → has_variable x ts ≡ has_variable x us

source_alike : (left b c : List Term) → Alike b c → (t : Term) → source_of left c t ≡ source_of left b t
source_alike left b c h (variable x) = ap (λ v. cond v (Copied (home x left)) (Moved (home x left))) (sym (h x))
source_alike left b c h (instrument n) = refl
source_alike left b c h (apply f ts) = refl

pub source_front : (left b : List Term) (t : Term) → source_of left b (front t) ≡ source_of left b t
source_front left b (variable x) = refl
source_front left b (instrument n) = refl
source_front left b (apply f ts) = refl

piece_alike : (left b c : List Term) → Alike b c → (p : Part) → piece_for left b p ≡ piece_for left c p
piece_alike left b c h p = λ i. record { source = sym (source_alike left b c h (leaf p)) i; has_first = p.has_first; has_next = p.has_next }

has-append : (x : ℕ) (ts us : List Term) → has_variable x (ts ++ us) ≡ (has_variable x ts || has_variable x us)
has-append x [] us = refl
has-append x (t ∷ ts) us = ap (λ b. is_variable x t || b) (has-append x ts us) ∙ or_assoc (is_variable x t) (has_variable x ts) (has_variable x us)
  where
    or_assoc : (a b c : Bool) → (a || (b || c)) ≡ ((a || b) || c)
    or_assoc true b c = refl
    or_assoc false b c = refl

alike_more : (b c d e : List Term) → Alike b c → Alike d e → Alike (b ++ d) (c ++ e)
alike_more b c d e h k x = has-append x b d ∙ (λ i. h x i || k x i) ∙ sym (has-append x c e)

alike_one : (t : Term) → Alike (t ∷ []) (front t ∷ [])
alike_one t x = ap (λ b. b || false) (sym (is_front x t))

alike_under : (t : Term) → Alike (parts_under t) (map leaf (outline_under t))
alike_under t x = sym (has_front x (parts_under t)) ∙ ap (has_variable x) (fronts_under t)

-- the pieces for parts, in order, behind some
abbrev pub pieces_along : List Term → List Term → List Part → List Piece
pieces_along left before [] = []
pieces_along left before (p ∷ ps) = piece_for left before p ∷ pieces_along left (before ++ leaf p ∷ []) ps

along-append : (left b : List Term) (ps qs : List Part) → pieces_along left b (ps ++ qs) ≡ pieces_along left b ps ++ pieces_along left (b ++ map leaf ps) qs
along-append left b [] qs = ap (λ c. pieces_along left c qs) (sym (append-nil b))
along-append left b (p ∷ ps) qs =
    ap (λ l. piece_for left b p ∷ l) (along-append left (b ++ leaf p ∷ []) ps qs ∙ ap (λ c. pieces_along left (b ++ leaf p ∷ []) ps ++ pieces_along left c qs) (append_assoc b (leaf p ∷ []) (map leaf ps)))

-- one part more
pub along_more : (left b : List Term) (ps : List Part) (i : ℕ) (d : Part) → i < length ps → pieces_along left b (take (i + 1) ps) ≡ pieces_along left b (take i ps) ++ piece_for left (b ++ map leaf (take i ps)) (get_or ps i d) ∷ []
along_more left b ps i d l = ap (pieces_along left b) (take_more ps i d l) ∙ along-append left b (take i ps) (get_or ps i d ∷ [])

mutual
  pieces_outlined_of : (left b c : List Term) → Alike b c → (ts : Terms) → pieces_along left c (outline_of ts) ≡ pieces_of left b ts
  pieces_outlined_of left b c h nil = refl
  pieces_outlined_of left b c h (cons t us) =
      let one = alike_more b c (t ∷ []) (front t ∷ []) h (alike_one t) in
      let all : Alike (b ++ t ∷ parts_under t) ((c ++ front t ∷ []) ++ map leaf (outline_under t)) =
      λ x. ap (has_variable x) (sym (append_assoc b (t ∷ []) (parts_under t))) ∙ alike_more (b ++ t ∷ []) (c ++ front t ∷ []) (parts_under t) (map leaf (outline_under t)) one (alike_under t) x in
      let first = source_front left c t ∙ source_alike left b c h t in
      ap (λ l. piece_for left c (part_of t (any us)) ∷ l) (along-append left (c ++ front t ∷ []) (outline_under t) (outline_of us))
      ∙ (λ i. record { source = first i; has_first = has_arguments t; has_next = any us } ∷ (pieces_outlined left (b ++ t ∷ []) (c ++ front t ∷ []) one t i ++ pieces_outlined_of left (b ++ t ∷ parts_under t) ((c ++ front t ∷ []) ++ map leaf (outline_under t)) all us i))

  pub pieces_outlined : (left b c : List Term) → Alike b c → (t : Term) → pieces_along left c (outline_under t) ≡ pieces_under left b t
  pieces_outlined left b c h (variable x) = refl
  pieces_outlined left b c h (instrument n) = refl
  pieces_outlined left b c h (apply f ts) = pieces_outlined_of left b c h ts

-- one piece more, for a rule whose sides have these outlines
module _ (r : Rule) (left right : Outline) (of : OutlinesRule r left right) where
  abbrev l : List Term
  l = parts_under r.left

  abbrev u : Term
  u = r.right

  first_alike : (n : ℕ) → Alike (take (n + 1) (u ∷ parts_under u)) (front u ∷ map leaf (take n (items right.others)))
  first_alike n x =
      let others : map front (take n (parts_under u)) ≡ map leaf (take n (items right.others)) =
      sym (take-map front n (parts_under u)) ∙ ap (take n) (fronts_under u) ∙ take-map leaf n (outline_under u) ∙ ap (λ ps. map leaf (take n ps)) (sym of.right_is.others) in
      rw add-one (λ i. sym (is_front x u) i || (sym (has_front x (take n (parts_under u))) ∙ ap (has_variable x) others) i)

  pub pieces_more : (n : ℕ) (d : Part) (ps : List Part) → ps ≡ items right.others → n < length ps → (made more : List Piece) (p : Piece) → made ≡ pieces_along l (front u ∷ []) (take n (items right.others)) → more ≡ made ++ p ∷ [] → p ≡ piece_for l (take (n + 1) (u ∷ parts_under u)) (get_or ps n d) → more ≡ pieces_along l (front u ∷ []) (take (n + 1) (items right.others))
  pieces_more n d ps same within made more p so_far pushed is =
      let b = front u ∷ map leaf (take n (items right.others)) in
      let one : p ≡ piece_for l b (get_or (items right.others) n d) = is ∙ piece_alike l (take (n + 1) (u ∷ parts_under u)) b (first_alike n) (get_or ps n d) ∙ ap (λ qs. piece_for l b (get_or qs n d)) same in
      pushed ∙ (λ i. so_far i ++ one i ∷ []) ∙ sym (along_more l (front u ∷ []) (items right.others) n d (omega (arith, within, ap length same)))

  pub pieces_whole : (n : ℕ) → length (items right.others) ≤ n → pieces_along l (front u ∷ []) (take n (items right.others)) ≡ pieces_under l (u ∷ []) u
  pieces_whole n all = ap (pieces_along l (front u ∷ [])) (take_all n (items right.others) all ∙ of.right_is.others) ∙ pieces_outlined l (u ∷ []) (front u ∷ []) (alike_one u) u
