-- A run over some tokens, and where it stops.
use Rattle.std.proofs.Common.{◌≡◌, ℕ, suc, List, [], ◌∷◌, ◌++◌, take, drop, Some, None, Ok, Err, Option, Result, sym, refl, ap, ◌∙◌, subst, append_assoc, append-nil}
use Rattle.std.specs.List.{AllByRecursion}
use Rattle.terms.specs.Term.{Term}
use Rattle.terms.specs.Signature.{Sig}
use Rattle.reading.specs.declared.token.At.{At}
use Rattle.reading.specs.declared.fault.TextFault.{TextFault}
use Rattle.reading.specs.Tokens.{Tok, past}
use Rattle.reading.specs.Reading.{State, wants, opens, has, top, within, step, ending, chain, run_with}
use Rattle.reading.specs.Laws.{Wrong, first_of}
use Rattle.reading.proofs.Equal.{not_both, same_ok, same_fault}

-- the place behind some tokens
abbrev pub passed : At → List Tok → At
passed at [] = at
passed at (k ∷ ks) = passed (past at k) ks

pub chain_ok : {A B E : Type 0} (r : Result A E) (f : A → Result B E) (b : B) → chain r f ≡ Ok b → (a : A) × (r ≡ Ok a) × (f a ≡ Ok b)
chain_ok (Ok a) f b e = (a, refl, e)
chain_ok (Err g) f b e = not_both (sym e)

-- of any reading that steps from token to token
module _ {S E : Type 0} (next : S → At → Tok → Result S E) where
  -- the state behind some tokens
  abbrev pub reach_with : S → At → List Tok → Result S E
  reach_with = run_with next (λ s at. Ok s)

  pub then_reach : (s : S) (at : At) (k : Tok) (ks : List Tok) (u : S) → next s at k ≡ Ok u → reach_with s at (k ∷ ks) ≡ reach_with u (past at k) ks
  then_reach s at k ks u e = ap (λ (r : Result S E). chain r (λ v. reach_with v (past at k) ks)) e

  pub reach_append : (s : S) (at : At) (ks ls : List Tok) → reach_with s at (ks ++ ls) ≡ chain (reach_with s at ks) (λ u. reach_with u (passed at ks) ls)
  reach_append s at [] ls = refl
  reach_append s at (k ∷ ks) ls =
      elim (next s at k) as (λ r. chain r (λ u. reach_with u (past at k) (ks ++ ls)) ≡ chain (chain r (λ u. reach_with u (past at k) ks)) (λ u. reach_with u (passed at (k ∷ ks)) ls))
      [ Ok u ↦ reach_append u (past at k) ks ls | Err g ↦ refl ]

  -- behind the first tokens, and from there behind the others
  pub reach_join : (s : S) (at : At) (ks ls : List Tok) (v u : S) → reach_with s at ks ≡ Ok v → reach_with v (passed at ks) ls ≡ Ok u → reach_with s at (ks ++ ls) ≡ Ok u
  reach_join s at ks ls v u e q = reach_append s at ks ls ∙ ap (λ (r : Result S E). chain r (λ w. reach_with w (passed at ks) ls)) e ∙ q

  pub reach_split : (s : S) (at : At) (ks ls : List Tok) (u : S) → reach_with s at (ks ++ ls) ≡ Ok u → (v : S) × (reach_with s at ks ≡ Ok v) × (reach_with v (passed at ks) ls ≡ Ok u)
  reach_split s at ks ls u e = chain_ok (reach_with s at ks) _ u (sym (reach_append s at ks ls) ∙ e)

  -- the first of some tokens
  pub reach_first : (s : S) (at : At) (k : Tok) (ks : List Tok) (u : S) → reach_with s at (k ∷ ks) ≡ Ok u → (v : S) × (next s at k ≡ Ok v) × (reach_with v (past at k) ks ≡ Ok u)
  reach_first s at k ks u e = chain_ok (next s at k) _ u e

  -- what one token keeps of the state, the tokens before it and its place is kept along all tokens
  pub all_along : (Q : Tok → Type 0) (P : S → List Tok → At → Type 0)
      → ((s : S) (ks : List Tok) (at : At) (k : Tok) (u : S) → Q k → P s ks at → next s at k ≡ Ok u → P u (ks ++ (k ∷ [])) (past at k))
      → (ls : List Tok) (s : S) (ks : List Tok) (at : At) (u : S) → AllByRecursion Q ls → P s ks at → reach_with s at ls ≡ Ok u → P u (ks ++ ls) (passed at ls)
  all_along Q P one [] s ks at u l p e = subst (λ v. P v (ks ++ []) at) (same_ok e) (subst (λ js. P s js at) (sym (append-nil ks)) p)
  all_along Q P one (k ∷ ls) s ks at u l p e =
      let (v, q, r) = reach_first s at k ls u e in
      subst (λ js. P u js (passed (past at k) ls)) (append_assoc ks (k ∷ []) ls) (all_along Q P one ls v (ks ++ (k ∷ [])) (past at k) u l.1 (one s ks at k v l.0 p q) r)

  -- wherever the tokens stand, they lead from one state to another
  abbrev pub Leads : S → List Tok → S → Type 0
  Leads s ks u = (at : At) → reach_with s at ks ≡ Ok u

  pub leads_join : (s : S) (ks ls : List Tok) (v u : S) → Leads s ks v → Leads v ls u → Leads s (ks ++ ls) u
  leads_join s ks ls v u p q = λ at. reach_join s at ks ls v u (p at) (q (passed at ks))

  -- and of its end
  module _ {A : Type 0} (end : S → At → Result A E) where
    pub run_reach : (s : S) (at : At) (ks : List Tok) → run_with next end s at ks ≡ chain (reach_with s at ks) (λ u. end u (passed at ks))
    run_reach s at [] = refl
    run_reach s at (k ∷ ks) =
        elim (next s at k) as (λ r. chain r (λ u. run_with next end u (past at k) ks) ≡ chain (chain r (λ u. reach_with u (past at k) ks)) (λ u. end u (passed at (k ∷ ks))))
        [ Ok u ↦ run_reach u (past at k) ks | Err g ↦ refl ]

    -- an accepted text comes to a state where it may end
    pub run_ends : (s : S) (at : At) (ks : List Tok) (a : A) → run_with next end s at ks ≡ Ok a → (u : S) × (reach_with s at ks ≡ Ok u) × (end u (passed at ks) ≡ Ok a)
    run_ends s at ks a e = chain_ok (reach_with s at ks) (λ u. end u (passed at ks)) a (sym (run_reach s at ks) ∙ e)

    -- a text that comes to such a state is accepted
    pub run_on : (s : S) (at : At) (ks : List Tok) (u : S) (a : A) → reach_with s at ks ≡ Ok u → end u (passed at ks) ≡ Ok a → run_with next end s at ks ≡ Ok a
    run_on s at ks u a e q = run_reach s at ks ∙ ap (λ (r : Result S E). chain r (λ v. end v (passed at ks))) e ∙ q

    -- a state refuses a token, or the end, with a fault
    abbrev pub Refuses : S → At → Wrong → E → Type 0
    Refuses s at None f = end s at ≡ Err f
    Refuses s at (Some k) f = next s at k ≡ Err f

    -- a run stops: the tokens before, the state behind them, and that it refuses what comes
    pub record Stops (s : S) (at : At) (ks : List Tok) (f : E) : Type 0 where
      pub before : ℕ
      pub state : S
      pub there : reach_with s at (take before ks) ≡ Ok state
      pub refuses : Refuses state (passed at (take before ks)) (first_of (drop before ks)) f

    stops_at : (s : S) (at : At) (k : Tok) (ks : List Tok) (f : E) (r : Result S E) → next s at k ≡ r
        → ((u : S) → run_with next end u (past at k) ks ≡ Err f → Stops u (past at k) ks f)
        → chain r (λ u. run_with next end u (past at k) ks) ≡ Err f → Stops s at (k ∷ ks) f
    stops_at s at k ks f (Ok u) e later q =
        let z = later u q in
        record { before = suc z.before; state = z.state; there = then_reach s at k (take z.before ks) u e ∙ z.there; refuses = z.refuses }
    stops_at s at k ks f (Err g) e later q = record { before = 0; state = s; there = refl; refuses = e ∙ ap Err (same_fault q) }

    -- a refused text stops a run
    pub run_stops : (s : S) (at : At) (ks : List Tok) (f : E) → run_with next end s at ks ≡ Err f → Stops s at ks f
    run_stops s at [] f e = record { before = 0; state = s; there = refl; refuses = e }
    run_stops s at (k ∷ ks) f e = stops_at s at k ks f (next s at k) refl (λ u q. run_stops u (past at k) ks f q) e

-- the state behind some tokens of a ticket
abbrev pub reach : Sig → State → At → List Tok → Result State TextFault
reach sig = reach_with (step sig)

-- an accepted ticket comes to its term, outside all operators
pub ended : (s : State) (at : At) (t : Term) → ending s at ≡ Ok t → (m : Option At) × (s ≡ has t m top)
ended (wants k) at t e = not_both (sym e)
ended (opens f a n k) at t e = not_both (sym e)
ended (has u m top) at t e = (m, cc)
ended (has u m (within f a ts n k)) at t e = not_both (sym e)
