-- What an outline says of the parts of its term.
use Rattle.std.proofs.Common.{◌≡◌, ℕ, zero, suc, ◌+◌, ◌-◌, ◌<◌, Bool, true, false, cond, ◌||◌, List, [], ◌∷◌, ◌++◌, length, map, take, count_by, is_some, position, unwrap_or, not, refl, sym, ap, ◌∙◌, arith}
use Rattle.std.specs.List.{list_any, position_or_len}
use Rattle.std.proofs.lemmas.Bool.Decides.{nat_tests}
use Rattle.std.proofs.lemmas.List.Sums.{prefix_len-le-length}
use Rattle.std.proofs.lemmas.List.Recursion.{is_count_by, is_position_or_len}
use Rattle.std.proofs.lemmas.List.{map-append, take-map, length-append, length-map}
use Rattle.fixed_vec.specs.FixedVec.{items}
use Rattle.terms.specs.declared.symbol.Symbol.TheVariants.{Variable, Instrument, Operator}
use Rattle.terms.specs.Term.{Term, variable, instrument, apply, Terms, nil, cons, symbols, symbols_in}
use Rattle.compiled.specs.Symbols.{wanted, parts_of, parts_under, is_variable, has_variable, home, plain}
use Rattle.compiled.specs.Plans.{dropped_from}
use Rattle.compiling.specs.declared.outline.Part.{Part}
use Rattle.compiling.specs.declared.outline.Outline.{Outline}
use Rattle.compiling.specs.Outlines.{first_of, outline_of, outline_under, Outlines, alone, leaf}

-- a term without what is behind its first symbol
abbrev pub front : Term → Term
front t = alone (first_of t)

-- one for each part
mutual
  fronts_of : (ts : Terms) → map front (parts_of ts) ≡ map leaf (outline_of ts)
  fronts_of nil = refl
  fronts_of (cons t us) = ap (λ l. front t ∷ l) (map-append front (parts_under t) (parts_of us) ∙ (λ i. fronts_under t i ++ fronts_of us i) ∙ sym (map-append leaf (outline_under t) (outline_of us)))

  pub fronts_under : (t : Term) → map front (parts_under t) ≡ map leaf (outline_under t)
  fronts_under (variable x) = refl
  fronts_under (instrument n) = refl
  fronts_under (apply f ts) = fronts_of ts

mutual
  pub length-outline_of : (ts : Terms) → length (outline_of ts) ≡ symbols_in ts
  length-outline_of nil = refl
  length-outline_of (cons t us) = omega (arith, length-outline_under t, length-outline_of us, length-append (outline_under t) (outline_of us))

  pub length-outline_under : (t : Term) → suc (length (outline_under t)) ≡ symbols t
  length-outline_under (variable x) = refl
  length-outline_under (instrument n) = refl
  length-outline_under (apply f ts) = ap suc (length-outline_of ts)

-- what is said of parts is said of their fronts
pub is_front : (x : ℕ) (t : Term) → is_variable x (front t) ≡ is_variable x t
is_front x (variable y) = refl
is_front x (instrument n) = refl
is_front x (apply f ts) = refl

pub has_front : (x : ℕ) (ts : List Term) → has_variable x (map front ts) ≡ has_variable x ts
has_front x [] = refl
has_front x (t ∷ ts) = λ i. is_front x t i || has_front x ts i

home_front : (x : ℕ) (ts : List Term) → home x (map front ts) ≡ home x ts
home_front x [] = refl
home_front x (t ∷ ts) = λ i. cond (is_front x t i) zero (suc (home_front x ts i))

plain_front : (ts : List Term) → plain (map front ts) ≡ plain ts
plain_front [] = refl
plain_front (variable x ∷ ts) = plain_front ts
plain_front (instrument n ∷ ts) = ap suc (plain_front ts)
plain_front (apply f us ∷ ts) = ap suc (plain_front ts)

dropped_front : (k : ℕ) (ts right : List Term) → dropped_from k (map front ts) right ≡ dropped_from k ts right
dropped_front k [] right = refl
dropped_front k (variable x ∷ ts) right = λ i. cond (has_variable x right) (dropped_front (suc k) ts right i) (k ∷ dropped_front (suc k) ts right i)
dropped_front k (instrument n ∷ ts) right = dropped_front (suc k) ts right
dropped_front k (apply f us ∷ ts) right = dropped_front (suc k) ts right

-- what is counted and looked for in an outline
plain_more : (p : Part) (ps : List Part) → plain (map leaf (p ∷ ps)) ≡ cond (is_some (wanted (leaf p))) (1 + plain (map leaf ps)) (plain (map leaf ps))
plain_more p ps = elim p.symbol as (λ s. plain (alone s ∷ map leaf ps) ≡ cond (is_some (wanted (alone s))) (1 + plain (map leaf ps)) (plain (map leaf ps))) [ Variable x ↦ refl | Instrument n ↦ omega arith | Operator f ↦ omega arith ]

one_or_none : (b : Bool) (n : ℕ) → cond b 1 0 + n ≡ cond b (1 + n) n
one_or_none true n = refl
one_or_none false n = omega arith

plain_counted : (p : Part) (ps : List Part) → cond (is_some (wanted (leaf p))) 1 0 + count_by (λ (q : Part). is_some (wanted (leaf q))) ps ≡ plain (map leaf (p ∷ ps))
plain_counted p ps =
    let counted = is_count_by (λ (qs : List Part). plain (map leaf qs)) (λ q. is_some (wanted (leaf q))) refl plain_more ps in
    ap (λ n. cond (is_some (wanted (leaf p))) 1 0 + n) (sym counted) ∙ one_or_none (is_some (wanted (leaf p))) (plain (map leaf ps)) ∙ sym (plain_more p ps)

has_listed : (x : ℕ) (ps : List Part) → list_any (λ p. is_variable x (leaf p)) ps ≡ has_variable x (map leaf ps)
has_listed x [] = refl
has_listed x (p ∷ ps) = ap (λ b. is_variable x (leaf p) || b) (has_listed x ps)

-- past a first part that does not have it
pub any_behind : (p : Part → Bool) (r : Part) (ps : List Part) (n : ℕ) → 0 < n → p r ≡ false → list_any p (take (n - 1) ps) ≡ list_any p (take n (r ∷ ps))
any_behind p r ps zero some e = absurd (omega arith)
any_behind p r ps (suc n) some e = ap (λ m. list_any p (take m ps)) (omega arith) ∙ ap (λ b. b || list_any p (take n ps)) (sym e)

pub found_or_len : (p : Part → Bool) (ps : List Part) → unwrap_or (position p ps) (length ps) ≡ position_or_len p ps
found_or_len p ps = let h = prefix_len-le-length (λ x. not (p x)) ps in grind (arith, nat_tests)

home_listed : (x : ℕ) (ps : List Part) → position_or_len (λ p. is_variable x (leaf p)) ps ≡ home x (map leaf ps)
home_listed x ps = sym (is_position_or_len (λ (qs : List Part). home x (map leaf qs)) (λ p. is_variable x (leaf p)) refl (λ p qs. ap (cond (is_variable x (leaf p)) 0) (omega arith)) ps)

-- the parts of the term that an outline is of
module _ (t : Term) (o : Outline) (of : Outlines t o) where
  leaves_under : map leaf (items o.others) ≡ map front (parts_under t)
  leaves_under = ap (map leaf) of.others ∙ sym (fronts_under t)

  leaves : map leaf (o.root ∷ items o.others) ≡ map front (t ∷ parts_under t)
  leaves = λ i. leaf (of.root i) ∷ leaves_under i

  -- the first n
  pub has_outlined : (x n : ℕ) → list_any (λ p. is_variable x (leaf p)) (take n (o.root ∷ items o.others)) ≡ has_variable x (take n (t ∷ parts_under t))
  has_outlined x n =
      has_listed x (take n (o.root ∷ items o.others))
      ∙ ap (has_variable x) (sym (take-map leaf n (o.root ∷ items o.others)) ∙ ap (take n) leaves ∙ take-map front n (t ∷ parts_under t))
      ∙ has_front x (take n (t ∷ parts_under t))

  pub home_outlined : (x : ℕ) → position_or_len (λ p. is_variable x (leaf p)) (items o.others) ≡ home x (parts_under t)
  home_outlined x = home_listed x (items o.others) ∙ ap (home x) leaves_under ∙ home_front x (parts_under t)

  pub plain_outlined : cond (is_some (wanted (leaf o.root))) 1 0 + count_by (λ (p : Part). is_some (wanted (leaf p))) (items o.others) ≡ plain (t ∷ parts_under t)
  plain_outlined = plain_counted o.root (items o.others) ∙ ap plain leaves ∙ plain_front (t ∷ parts_under t)

  pub dropped_outlined : (right : List Term) → dropped_from 0 (map leaf (items o.others)) right ≡ dropped_from 0 (parts_under t) right
  dropped_outlined right = ap (λ ts. dropped_from 0 ts right) leaves_under ∙ dropped_front 0 (parts_under t) right

  pub parts_outlined : length (parts_under t) ≡ length (items o.others)
  parts_outlined = omega (arith, length-map (parts_under t) front, ap length leaves_under, length-map (items o.others) leaf)
