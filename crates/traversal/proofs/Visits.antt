-- What one visit of the count does.
use Rattle.std.proofs.Common.{◌≡◌, ℕ, ◌+◌, ◌<◌, ◌≤◌, ◌⊎◌, List, ◌∷◌, ◌++◌, length, Some, None, Option, Ok, Err, Result, sym, refl, ap, ◌∙◌, subst, inl, inr, slice_index_or, drop, arith, length-append}
use Rattle.terms.specs.declared.symbol.Symbol.{Symbol}
use Rattle.terms.specs.declared.symbol.Symbol.TheVariants.{Variable, Instrument, Operator}
use Rattle.terms.specs.Term.{Term, variable, instrument, apply, nil, cons, symbols}
use Rattle.terms.specs.View.{Answers, Stands}
use Rattle.traversal.specs.Walks.{most_symbols}
use Rattle.std.specs.Result.{IsErr, result_ok}
use Rattle.fixed_vec.specs.declared.Full.{Full}
use Rattle.traversal.specs.Rows.{row_of, Many, PutBefore, Visited}
use Rattle.traversal.proofs.Rows.{never, top, stands_top, length_le_symbols, opened, closed, row_none, filled_more, filled_long}
use Rattle.traversal.proofs.Slots.{filled}

-- no room for the rest of a row
pub refused : (r : Result (Unit {0}) Full) (row mid before after : List ℕ) (os : List (Option ℕ)) (i x : ℕ) → IsErr r → i < length os → slice_index_or os i None ≡ Some x → filled (drop i os) mid ≡ row ++ before → 16384 ≤ length mid → PutBefore row before after r
unfolding most_symbols
refused (Ok u) row mid before after os i x is h at e full = cc
refused (Err u) row mid before after os i x is h at e full =
    let more = filled_more os i (Some x) mid (x ∷ mid) (row ++ before) h at refl e in
    let long = filled_long (drop (i + 1) os) (x ∷ mid) in
    let all = ap length more in
    omega (arith, length-append row before)

-- where there is no room for the arguments, there are too many symbols
pub no_room : (v : Answers) (p : ℕ) (before : List ℕ) → v.argument p 3 ≡ None → most_symbols < length (row_of v p) + length before → (m : ℕ) → Many v (p ∷ before) m → most_symbols < m
no_room v p before few full m s =
    let o = opened v p before m few s in
    let less = length_le_symbols v (row_of v p ++ before) o.2.0 o.2.1 in
    let long = length-append (row_of v p) before in
    let sum = o.2.2 in
    omega arith

pub visited_operator : (r : Result (Unit {0}) Full) (v : Answers) (p f : ℕ) (before after : List ℕ) → v.symbol p ≡ Some (Operator f) → v.argument p 3 ≡ None → PutBefore (row_of v p) before after r → Visited v (p ∷ before) after (result_ok r)
visited_operator (Ok u) v p f before after is few put = (
  λ m s. closed v p f before m is few (subst (λ l. Many v l m) put s),
  λ m s. let o = opened v p before m few s in (o.0, o.1, subst (λ l. Many v l o.0) (sym put) o.2),
)
visited_operator (Err e) v p f before after is few put = no_room v p before few put

pub visited_none : (v : Answers) (p : ℕ) (before : List ℕ) → ((t : Term) → Stands v p t → ⊥) → (m : ℕ) → Many v (p ∷ before) m → most_symbols < m
visited_none v p before none m (nil, s, e) = absurd s
visited_none v p before none m (cons t ts, s, e) = absurd (none t s.0)

pub no_symbol : (v : Answers) (p : ℕ) → v.symbol p ≡ None → (t : Term) → Stands v p t → ⊥
no_symbol v p e t s = never (v.symbol p) (top t) e (stands_top v p t s)

-- a variable and an instrument are terms of one symbol
abbrev Bare : Symbol → Type 0
Bare s = ((x : ℕ) × (s ≡ Variable x)) ⊎ ((x : ℕ) × (s ≡ Instrument x))

bare_term : (v : Answers) (p : ℕ) (s : Symbol) → v.symbol p ≡ Some s → Bare s → v.argument p 0 ≡ None → (t : Term) × Stands v p t × (symbols t ≡ 1)
bare_term v p s is (inl (x, e)) none = (variable x, (is ∙ ap Some e, none), refl)
bare_term v p s is (inr (x, e)) none = (instrument x, (is ∙ ap Some e, none), refl)

bare_operator : (s : Symbol) (f : ℕ) → Bare s → s ≡ Operator f → ⊥
bare_operator s f (inl (x, e)) h = let z : ◌≡◌ {A = ℕ} 0 1 = cc in omega arith
bare_operator s f (inr (x, e)) h = let z : ◌≡◌ {A = ℕ} 0 1 = cc in omega arith

bare_arguments : (v : Answers) (p q : ℕ) (s : Symbol) → v.symbol p ≡ Some s → Bare s → v.argument p 0 ≡ Some q → (t : Term) → Stands v p t → ⊥
bare_arguments v p q s is b e (variable x) (h, a) = never (v.argument p 0) q a e
bare_arguments v p q s is b e (instrument n) (h, a) = never (v.argument p 0) q a e
bare_arguments v p q s is b e (apply f ts) (h, a) = bare_operator s f b (cc)

pub visited_bare : (v : Answers) (p : ℕ) (s : Symbol) (before : List ℕ) → v.symbol p ≡ Some s → Bare s → v.argument p 3 ≡ None → v.argument p 0 ≡ None → Visited v (p ∷ before) before (Some tt)
visited_bare v p s before is b few none =
    let t = bare_term v p s is b none in (
      λ m r. (cons t.0 r.0, (t.1, r.1), omega (arith, r.2, t.2)),
      λ m r. let o = opened v p before m few r in (o.0, o.1, subst (λ l. Many v (l ++ before) o.0) (row_none v p none) o.2),
    )

pub visited_arguments : (v : Answers) (p q : ℕ) (s : Symbol) (before : List ℕ) → v.symbol p ≡ Some s → Bare s → v.argument p 0 ≡ Some q → (m : ℕ) → Many v (p ∷ before) m → most_symbols < m
visited_arguments v p q s before is b some = visited_none v p before (bare_arguments v p q s is b some)
