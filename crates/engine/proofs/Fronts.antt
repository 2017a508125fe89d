-- A left side does not match where something else than it begins with is in front of one of the first two arguments.
use Rattle.std.proofs.Common.{◌≡◌, refl, sym, ◌∙◌, ap, false, cond, ◌==◌, ℕ, Option}
use Rattle.std.proofs.lemmas.Bool.{true≢false}
use Rattle.std.proofs.Math.Option.{Option as Maybe, none as nothing, some}
use Rattle.terms.specs.declared.symbol.Symbol.{Symbol}
use Rattle.terms.specs.Term.{Term, variable, instrument, apply, Terms, nil, cons}
use Rattle.rewriting.specs.Bindings.{Bindings, joined}
use Rattle.rewriting.specs.Next.{matching, matching_all}
use Rattle.node_store.specs.Placed.{Placed, at, IsTerm, AreTerms}
use Rattle.node_store.specs.Loading.{arguments_of}
use Rattle.compiled.specs.Compiled.{may_begin, may_begin_at, may_begin_under, front}

no_first : (o q : Maybe Bindings) → o ≡ nothing → joined o q ≡ nothing
no_first o q e = ap (λ z. joined z q) e

no_rest : (o q : Maybe Bindings) → q ≡ nothing → joined o q ≡ nothing
no_rest nothing q e = refl
no_rest (some a) q e = ap (joined (some a)) e

-- a pattern does not match a term with another symbol in front
front_differs : (a t : Term) (s : Option Symbol) (ks : Placed) → IsTerm s ks t → may_begin a (front s) ≡ false → matching a t ≡ nothing
front_differs (variable x) t s ks i e = absurd (true≢false e)
front_differs (instrument n) (variable y) s ks i e = refl
front_differs (instrument n) (instrument k) s ks i e = absurd (true≢false (ap (λ z. may_begin (instrument n) (front z)) (sym i.0) ∙ e))
front_differs (instrument n) (apply g us) s ks i e = refl
front_differs (apply f ls) (variable y) s ks i e = refl
front_differs (apply f ls) (instrument k) s ks i e = refl
front_differs (apply f ls) (apply g us) s ks i e = let z : (f == g) ≡ false = ap (λ z. may_begin (apply f ls) (front z)) (sym i.0) ∙ e in ap (λ c. cond c (matching_all ls us) nothing) z

-- nor do the patterns of a row where that is so of the first term
first_differs : (ls ts : Terms) (p : ℕ) (s : Option Symbol) (ks us : Placed) → AreTerms (at p s ks us) ts → may_begin_at 0 ls (front s) ≡ false → matching_all ls ts ≡ nothing
first_differs nil ts p s ks us a e = absurd (true≢false e)
first_differs (cons l ls) nil p s ks us a e = absurd a
first_differs (cons l ls) (cons t ts) p s ks us a e = no_first (matching l t) (matching_all ls ts) (front_differs l t s ks a.0 e)

-- nor of the second
second_differs : (ls ts : Terms) (p q : ℕ) (r s : Option Symbol) (js ks us : Placed) → AreTerms (at p r js (at q s ks us)) ts → may_begin_at 1 ls (front s) ≡ false → matching_all ls ts ≡ nothing
second_differs nil ts p q r s js ks us a e = absurd (true≢false e)
second_differs (cons l ls) nil p q r s js ks us a e = absurd a
second_differs (cons l ls) (cons t ts) p q r s js ks us a e = no_rest (matching l t) (matching_all ls ts) (first_differs ls ts q s ks us a.1 e)

-- so it is of the arguments of a left side
under : (n : ℕ) (left : Term) (o : Option ℕ) (ts : Terms) → ((ls : Terms) → may_begin_at n ls o ≡ false → matching_all ls ts ≡ nothing) → may_begin_under n left o ≡ false → matching_all (arguments_of left) ts ≡ nothing
under n (variable x) o ts h e = absurd (true≢false e)
under n (instrument m) o ts h e = absurd (true≢false e)
under n (apply f ls) o ts h e = h ls e

pub first_ruled_out : (left : Term) (ts : Terms) (p : ℕ) (s : Option Symbol) (ks us : Placed) → AreTerms (at p s ks us) ts → may_begin_under 0 left (front s) ≡ false → matching_all (arguments_of left) ts ≡ nothing
first_ruled_out left ts p s ks us a e = under 0 left (front s) ts (λ ls. first_differs ls ts p s ks us a) e

pub second_ruled_out : (left : Term) (ts : Terms) (p q : ℕ) (r s : Option Symbol) (js ks us : Placed) → AreTerms (at p r js (at q s ks us)) ts → may_begin_under 1 left (front s) ≡ false → matching_all (arguments_of left) ts ≡ nothing
second_ruled_out left ts p q r s js ks us a e = under 1 left (front s) ts (λ ls. second_differs ls ts p q r s js ks us a) e
