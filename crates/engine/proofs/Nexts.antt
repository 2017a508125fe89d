-- The next step of a term by those of its arguments, and of a row by those of its terms.
use Rattle.std.proofs.Common.{◌≡◌, refl, sym, ◌∙◌, ap, subst, List, [], ◌∷◌, Bool, true, false, cond, ◌==◌, ◌++◌, ℕ, zero, suc, ◌<◌, length, arith}
use Rattle.std.proofs.Math.Option.{Option, none, some}
use Rattle.terms.specs.Term.{Term, variable, instrument, apply, Terms, nil, cons}
use Rattle.terms.specs.Rule.{Rule, OperatorFirst}
use Rattle.terms.specs.Signature.{Sig}
use Rattle.terms.specs.Substitution.{fill}
use Rattle.rewriting.specs.Rules.{rule_at, RulesOf}
use Rattle.rewriting.specs.Bindings.{Bindings, bound}
use Rattle.rewriting.specs.Next.{matching, matching_all, contracted, next, next_in}
use Rattle.rewriting.proofs.Filling.{none_some}
use Rattle.rewriting.proofs.Matching.{joined_some, tested}
use Rattle.node_store.specs.Loading.{arguments_of}

-- either there is something or not
pub some_or_none : {A : Type 0} (o : Option A) (P : Type 0) → (o ≡ none → P) → ((a : A) → o ≡ some a → P) → P
some_or_none none P f g = f refl
some_or_none (some a) P f g = g a refl

module _ (rules : List Rule) where
  -- where the arguments have no next step a step is one of the whole
  pub next_whole : (t : Term) → next_in rules (arguments_of t) ≡ none → next rules t ≡ contracted rules t
  next_whole (variable x) e = refl
  next_whole (instrument n) e = refl
  next_whole (apply f ts) e = ap (λ o. elim o as (λ _. Option Term) [ none ↦ contracted rules (apply f ts) | some us ↦ some (apply f us) ]) e

  pub next_inside : (f : ℕ) (ts us : Terms) → next_in rules ts ≡ some us → next rules (apply f ts) ≡ some (apply f us)
  next_inside f ts us e = ap (λ o. elim o as (λ _. Option Term) [ none ↦ contracted rules (apply f ts) | some us ↦ some (apply f us) ]) e

  pub none_inside : (t : Term) → next rules t ≡ none → next_in rules (arguments_of t) ≡ none
  none_inside (variable x) e = refl
  none_inside (instrument n) e = refl
  none_inside (apply f ts) e = some_or_none (next_in rules ts) (next_in rules ts ≡ none) (λ q. q) (λ us q. absurd (none_some (sym e ∙ next_inside f ts us q)))

  pub next_first : (t u : Term) (ts : Terms) → next rules t ≡ some u → next_in rules (cons t ts) ≡ some (cons u ts)
  next_first t u ts e = ap (λ o. elim o as (λ _. Option Terms) [ none ↦ elim (next_in rules ts) [ none ↦ none | some us ↦ some (cons t us) ] | some u ↦ some (cons u ts) ]) e

  next_rest : (t : Term) (ts : Terms) → next rules t ≡ none → next_in rules (cons t ts) ≡ elim (next_in rules ts) as (λ _. Option Terms) [ none ↦ none | some us ↦ some (cons t us) ]
  next_rest t ts e = ap (λ o. elim o as (λ _. Option Terms) [ none ↦ elim (next_in rules ts) [ none ↦ none | some us ↦ some (cons t us) ] | some u ↦ some (cons u ts) ]) e

  pub next_later : (t : Term) (ts us : Terms) → next rules t ≡ none → next_in rules ts ≡ some us → next_in rules (cons t ts) ≡ some (cons t us)
  next_later t ts us e q = next_rest t ts e ∙ ap (λ o. elim o as (λ _. Option Terms) [ none ↦ none | some us ↦ some (cons t us) ]) q

  pub none_row : (t : Term) (ts : Terms) → next rules t ≡ none → next_in rules ts ≡ none → next_in rules (cons t ts) ≡ none
  none_row t ts e q = next_rest t ts e ∙ ap (λ o. elim o as (λ _. Option Terms) [ none ↦ none | some us ↦ some (cons t us) ]) q

  pub none_first : (t : Term) (ts : Terms) → next_in rules (cons t ts) ≡ none → next rules t ≡ none
  none_first t ts e = some_or_none (next rules t) (next rules t ≡ none) (λ q. q) (λ u q. absurd (none_some (sym e ∙ next_first t u ts q)))

  pub none_later : (t : Term) (ts : Terms) → next_in rules (cons t ts) ≡ none → next_in rules ts ≡ none
  none_later t ts e = some_or_none (next_in rules ts) (next_in rules ts ≡ none) (λ q. q) (λ us q. absurd (none_some (sym e ∙ next_later t ts us (none_first t ts e) q)))

-- ---- no left side matches a variable or an instrument

no_match_variable : (a : Term) (x : ℕ) → OperatorFirst a → matching a (variable x) ≡ none
no_match_variable (variable y) x o = absurd o
no_match_variable (instrument n) x o = absurd o
no_match_variable (apply f ts) x o = refl

no_match_instrument : (a : Term) (n : ℕ) → OperatorFirst a → matching a (instrument n) ≡ none
no_match_instrument (variable y) n o = absurd o
no_match_instrument (instrument k) n o = absurd o
no_match_instrument (apply f ts) n o = refl

-- where no rule matches
pub contracted_none : (rules : List Rule) (t : Term) → ((k : ℕ) → k < length rules → matching (rule_at rules k).left t ≡ none) → contracted rules t ≡ none
contracted_none [] t h = refl
contracted_none (r ∷ rules) t h = ap (λ o. elim o as (λ _. Option Term) [ none ↦ contracted rules t | some m ↦ some (fill (bound m) r.right) ]) (h 0 (omega arith)) ∙ contracted_none rules t (λ k i. h (suc k) (omega arith))

-- where the rule of a number is the first that matches
pub contracted_some : (rules : List Rule) (t : Term) (i : ℕ) (m : Bindings) → i < length rules → ((k : ℕ) → k < i → matching (rule_at rules k).left t ≡ none) → matching (rule_at rules i).left t ≡ some m → contracted rules t ≡ some (fill (bound m) (rule_at rules i).right)
contracted_some [] t i m l h e = absurd (let z : ⊥ = omega arith in z)
contracted_some (r ∷ rules) t zero m l h e = ap (λ o. elim o as (λ _. Option Term) [ none ↦ contracted rules t | some m ↦ some (fill (bound m) r.right) ]) e
contracted_some (r ∷ rules) t (suc i) m l h e =
    ap (λ o. elim o as (λ _. Option Term) [ none ↦ contracted rules t | some m ↦ some (fill (bound m) r.right) ]) (h 0 (omega arith)) ∙ contracted_some rules t i m (omega arith) (λ k j. h (suc k) (omega arith)) e

module _ (sig : Sig) (rules : List Rule) (over : RulesOf sig rules) where
  pub variable_none : (x : ℕ) → contracted rules (variable x) ≡ none
  variable_none x = contracted_none rules (variable x) (λ k h. no_match_variable (rule_at rules k).left x (over k h).operator_first)

  pub instrument_none : (n : ℕ) → contracted rules (instrument n) ≡ none
  instrument_none n = contracted_none rules (instrument n) (λ k h. no_match_instrument (rule_at rules k).left n (over k h).operator_first)

-- ---- what variables are bound to has no next step where the arguments have none

abbrev AllNormal : List Rule → Bindings → Type 0
AllNormal rules [] = Unit {0}
AllNormal rules (b ∷ m) = (next rules b.1 ≡ none) × AllNormal rules m

normal-append : (rules : List Rule) (m n : Bindings) → AllNormal rules m → AllNormal rules n → AllNormal rules (m ++ n)
normal-append rules [] n a b = b
normal-append rules (x ∷ m) n a b = (a.0, normal-append rules m n a.1 b)

module _ (rules : List Rule) where
  mutual
    normal_bound : (a t : Term) (m : Bindings) → matching a t ≡ some m → next rules t ≡ none → AllNormal rules m
    normal_bound (variable y) t m e q = let z : (y, t) ∷ [] ≡ m = cc in subst (AllNormal rules) z (q, tt)
    normal_bound (instrument n) (variable y) m e q = absurd (none_some e)
    normal_bound (instrument n) (instrument k) m e q = let h = (tested n k (some []) m e).1 in let z : [] ≡ m = cc in subst (AllNormal rules) z tt
    normal_bound (instrument n) (apply g us) m e q = absurd (none_some e)
    normal_bound (apply f ts) (variable y) m e q = absurd (none_some e)
    normal_bound (apply f ts) (instrument k) m e q = absurd (none_some e)
    normal_bound (apply f ts) (apply g us) m e q = normal_all ts us m (tested f g (matching_all ts us) m e).1 (none_inside rules (apply g us) q)

    normal_all : (a t : Terms) (m : Bindings) → matching_all a t ≡ some m → next_in rules t ≡ none → AllNormal rules m
    normal_all nil nil m e q = let z : [] ≡ m = cc in subst (AllNormal rules) z tt
    normal_all nil (cons u us) m e q = absurd (none_some e)
    normal_all (cons t ts) nil m e q = absurd (none_some e)
    normal_all (cons t ts) (cons u us) m e q =
        let (a, b, x, y, z) = joined_some (matching t u) (matching_all ts us) m e in
        subst (AllNormal rules) (sym z) (normal-append rules a b (normal_bound t u a x (none_first rules u us q)) (normal_all ts us b y (none_later rules u us q)))

module _ (sig : Sig) (rules : List Rule) (over : RulesOf sig rules) where
  normal_at : (m : Bindings) → AllNormal rules m → (x : ℕ) → next rules (bound m x) ≡ none
  normal_at [] a x = variable_none sig rules over x
  normal_at (b ∷ m) a x = go (normal_at m a.1 x) (x == b.0)
    where
      go : next rules (bound m x) ≡ none → (c : Bool) → next rules (cond c b.1 (bound m x)) ≡ none
      go rec true = a.0
      go rec false = rec

  pub bound_normal : (a t : Terms) (m : Bindings) → matching_all a t ≡ some m → next_in rules t ≡ none → (x : ℕ) → next rules (bound m x) ≡ none
  bound_normal a t m e q x = normal_at m (normal_all rules a t m e q) x
