-- The numbers from which pieces are copied.
use Rattle.std.proofs.Common.{◌≡◌, ℕ, ◌+◌, ◌<◌, ◌≤◌, List, [], ◌∷◌, ◌++◌, length, take, get_or, refl, ap, ◌∙◌, arith}
use Rattle.std.proofs.lemmas.List.{append-nil, take_more, length-take}
use Rattle.compiled.specs.declared.Piece.{Piece}
use Rattle.compiled.specs.declared.Source.{Source}
use Rattle.compiled.specs.declared.Source.TheVariants.{Made, Moved, Copied}
use Rattle.compiled.specs.Plans.{copy_before, copied_in}

copy_append : (s : Source) (ks ls : List ℕ) → copy_before s (ks ++ ls) ≡ copy_before s ks ++ ls
copy_append (Made x) ks ls = refl
copy_append (Moved k) ks ls = refl
copy_append (Copied k) ks ls = refl

copied_push : (ps : List Piece) (p : Piece) → copied_in (ps ++ p ∷ []) ≡ copied_in ps ++ copy_before p.source []
copied_push [] p = refl
copied_push (q ∷ ps) p = ap (copy_before q.source) (copied_push ps p) ∙ copy_append q.source (copied_in ps) (copy_before p.source [])

copied_more : (ps : List Piece) (i : ℕ) (d : Piece) → i < length ps → copied_in (take (i + 1) ps) ≡ copied_in (take i ps) ++ copy_before (get_or ps i d).source []
copied_more ps i d l = ap copied_in (take_more ps i d l) ∙ copied_push (take i ps) (get_or ps i d)

-- one piece more, which is a copy or is none
pub copied_one : (ps : List Piece) (i k : ℕ) (d : Piece) → i < length ps → (get_or ps i d).source ≡ Copied k → copied_in (take (i + 1) ps) ≡ copied_in (take i ps) ++ k ∷ []
copied_one ps i k d l e = copied_more ps i d l ∙ ap (λ s. copied_in (take i ps) ++ copy_before s []) e

no_copy : (s : Source) → ((k : ℕ) → s ≡ Copied k → ⊥) → copy_before s [] ≡ []
no_copy (Made x) h = refl
no_copy (Moved k) h = refl
no_copy (Copied k) h = absurd (h k refl)

pub copied_none : (ps : List Piece) (i : ℕ) (d : Piece) → i < length ps → ((k : ℕ) → (get_or ps i d).source ≡ Copied k → ⊥) → copied_in (take (i + 1) ps) ≡ copied_in (take i ps)
copied_none ps i d l h = copied_more ps i d l ∙ ap (λ ks. copied_in (take i ps) ++ ks) (no_copy (get_or ps i d).source h) ∙ append-nil (copied_in (take i ps))

length-copy_before : (s : Source) (ks : List ℕ) → length (copy_before s ks) ≤ length ks + 1
length-copy_before (Made x) ks = omega arith
length-copy_before (Moved k) ks = omega arith
length-copy_before (Copied k) ks = omega arith

length-copied_in : (ps : List Piece) → length (copied_in ps) ≤ length ps
length-copied_in [] = omega arith
length-copied_in (p ∷ ps) = omega (arith, length-copy_before p.source (copied_in ps), length-copied_in ps)

pub few_copied : (ps : List Piece) (i : ℕ) → length (copied_in (take i ps)) ≤ i
few_copied ps i = omega (arith, length-copied_in (take i ps), length-take i ps)
