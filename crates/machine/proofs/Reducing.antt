-- What a reduction does, and that it is the only one that does it.
use Rattle.std.proofs.Common.{◌≡◌, ◌≢◌, nat_le, refl, sym, ◌∙◌, ap, subst, Bool, true, false, List, ℕ, zero, suc, ◌+◌, ◌-◌, ◌<◌, ◌≤◌, leb-true, leb-false, arith}
use Rattle.std.proofs.Math.Option.{Option, none, some}
use Rattle.std.proofs.Math.Decide.{ℕ_discrete, dec_lt}
use Rattle.terms.specs.Term.{Term, symbols}
use Rattle.terms.specs.Rule.{Rule}
use Rattle.terms.specs.Signature.{Sig}
use Rattle.rewriting.specs.Rules.{RulesOf, MatchesNowhere}
use Rattle.rewriting.specs.Next.{NextStep, next, run}
use Rattle.rewriting.proofs.Nexts.{next_is_next_step, no_next_step}
use Rattle.rewriting.proofs.Filling.{none_some}
use Rattle.rewriting.proofs.Converging.{run_on, run_then}
use Rattle.machine.specs.Reducing.{Stop, finished, spent, short, Reduced, at_once, after_a_step, needed, free_after, reduction, GoesOn, StopsFor, IsReduction}
use Rattle.machine.specs.Laws.{ReductionsFixed}

-- ---- the same by the function `next`, with the room for a term in the nodes that it had and those that were free

pub record GoesByNext (rules : List Rule) (allowed free : ℕ) (t : Term) (n : ℕ) : Type 0 where
  pub allowed_on : n < allowed
  pub onto : Term
  pub is_next : next rules (run rules n t) ≡ some onto
  pub room : symbols onto ≤ free + symbols t

abbrev pub StopsByNext : List Rule → ℕ → ℕ → Term → ℕ → Stop → Type 0
StopsByNext rules allowed free t n finished = next rules (run rules n t) ≡ none
StopsByNext rules allowed free t n spent = (next rules (run rules n t) ≢ none) × (n ≡ allowed)
StopsByNext rules allowed free t n short = (n < allowed) × ((u : Term) × (next rules (run rules n t) ≡ some u) × (free + symbols t < symbols u))

pub record ByNext (rules : List Rule) (allowed free : ℕ) (t : Term) (r : Reduced) : Type 0 where
  pub made : (n : ℕ) → n < r.steps → GoesByNext rules allowed free t n
  pub stops : StopsByNext rules allowed free t r.steps r.stop

module _ (rules : List Rule) where
  -- ---- what the function gives

  stops_on : (k free : ℕ) (t u : Term) (n : ℕ) (s : Stop) → next rules t ≡ some u → symbols u ≤ free + symbols t → StopsByNext rules k (free_after free t u) u n s → StopsByNext rules (suc k) free t (suc n) s
  stops_on k free t u n finished e h w = ap (next rules) (run_on rules n t u e) ∙ w
  stops_on k free t u n spent e h w = (λ j. w.0 (ap (next rules) (sym (run_on rules n t u e)) ∙ j), ap suc w.1)
  stops_on k free t u n short e h w = let i = w.0 in let j = w.1.2 in (omega arith, (w.1.0, ap (next rules) (run_on rules n t u e) ∙ w.1.1, omega arith))

  goes_on : (k free : ℕ) (t u : Term) (n : ℕ) → next rules t ≡ some u → symbols u ≤ free + symbols t → GoesByNext rules k (free_after free t u) u n → GoesByNext rules (suc k) free t (suc n)
  goes_on k free t u n e h a =
      let i = a.allowed_on in
      let j = a.room in
      record { allowed_on = omega arith; onto = a.onto; is_next = ap (next rules) (run_on rules n t u e) ∙ a.is_next; room = omega arith }

  steps_on : (k free : ℕ) (t u : Term) (r : Reduced) → next rules t ≡ some u → symbols u ≤ free + symbols t → ByNext rules k (free_after free t u) u r → ByNext rules (suc k) free t (after_a_step r)
  steps_on k free t u r e h a = record { made = made; stops = stops_on k free t u r.steps r.stop e h a.stops }
    where
      made : (n : ℕ) → n < suc r.steps → GoesByNext rules (suc k) free t n
      made zero j = record { allowed_on = omega arith; onto = u; is_next = e; room = h }
      made (suc n) j = goes_on k free t u n e h (a.made n (omega arith))

  no_steps : (allowed free : ℕ) (t : Term) (s : Stop) → StopsByNext rules allowed free t 0 s → ByNext rules allowed free t (at_once s)
  no_steps allowed free t s w = record { made = λ n h. absurd (omega arith); stops = w }

  pub reduces : (allowed free : ℕ) (t : Term) → ByNext rules allowed free t (reduction rules allowed free t)
  reduces zero free t = go (next rules t) refl
    where
      go : (o : Option Term) → next rules t ≡ o → ByNext rules zero free t (elim o as (λ _. Reduced) [ none ↦ at_once finished | some u ↦ at_once spent ])
      go none e = no_steps zero free t finished e
      go (some u) e = no_steps zero free t spent (λ j. none_some (sym j ∙ e), refl)
  reduces (suc k) free t = go (λ f u. reduces k f u) (next rules t) refl
    where
      inner : ((f : ℕ) (u : Term) → ByNext rules k f u (reduction rules k f u)) → (u : Term) → next rules t ≡ some u → (b : Bool) → nat_le (needed t u) free ≡ b
          → ByNext rules (suc k) free t (elim b as (λ _. Reduced) [ true ↦ after_a_step (reduction rules k (free_after free t u) u) | false ↦ at_once short ])
      inner rec u e true p =
          let h = leb-true (symbols u - symbols t) free p in
          steps_on k free t u (reduction rules k (free_after free t u) u) e (omega arith) (rec (free_after free t u) u)
      inner rec u e false p =
          let h = leb-false (symbols u - symbols t) free p in
          no_steps (suc k) free t short (omega arith, (u, e, omega arith))

      go : ((f : ℕ) (u : Term) → ByNext rules k f u (reduction rules k f u)) → (o : Option Term) → next rules t ≡ o
          → ByNext rules (suc k) free t (elim o as (λ _. Reduced) [
            | none ↦ at_once finished
            | some u ↦ elim (nat_le (needed t u) free) [
              | true ↦ after_a_step (reduction rules k (free_after free t u) u)
              | false ↦ at_once short
            ]
          ])
      go rec none e = no_steps (suc k) free t finished e
      go rec (some u) e = inner rec u e (nat_le (needed t u) free) refl

  -- ---- nothing else does so

  -- where it stops it does not go on
  stops_there : (allowed free : ℕ) (t : Term) (n : ℕ) (s : Stop) → StopsByNext rules allowed free t n s → GoesByNext rules allowed free t n → ⊥
  stops_there allowed free t n finished w g = none_some (sym w ∙ g.is_next)
  stops_there allowed free t n spent w g = let i = g.allowed_on in let j = w.1 in omega arith
  stops_there allowed free t n short w g =
      let j = w.1.2 in
      let k = g.room in
      let z : w.1.0 ≡ g.onto = some_inj (sym w.1.1 ∙ g.is_next) in
      let i : symbols w.1.0 ≡ symbols g.onto = ap symbols z in
      omega arith
    where
      some_inj : {a b : Term} → some a ≡ some b → a ≡ b
      some_inj e = cc

  one_reason : (allowed free : ℕ) (t : Term) (n : ℕ) (s q : Stop) → StopsByNext rules allowed free t n s → StopsByNext rules allowed free t n q → s ≡ q
  one_reason allowed free t n finished finished a b = refl
  one_reason allowed free t n finished spent a b = absurd (b.0 a)
  one_reason allowed free t n finished short a b = absurd (none_some (sym a ∙ b.1.1))
  one_reason allowed free t n spent finished a b = absurd (a.0 b)
  one_reason allowed free t n spent spent a b = refl
  one_reason allowed free t n spent short a b = let i = a.1 in let j = b.0 in absurd (omega arith)
  one_reason allowed free t n short finished a b = absurd (none_some (sym b ∙ a.1.1))
  one_reason allowed free t n short spent a b = let i = a.0 in let j = b.1 in absurd (omega arith)
  one_reason allowed free t n short short a b = refl

  pub one_reduction : (allowed free : ℕ) (t : Term) (r q : Reduced) → ByNext rules allowed free t r → ByNext rules allowed free t q → r ≡ q
  one_reduction allowed free t r q a b = go (dec_lt r.steps q.steps) (dec_lt q.steps r.steps)
    where
      go : Dec (r.steps < q.steps) → Dec (q.steps < r.steps) → r ≡ q
      go (yes h) o = absurd (stops_there allowed free t r.steps r.stop a.stops (b.made r.steps h))
      go (no h) (yes k) = absurd (stops_there allowed free t q.steps q.stop b.stops (a.made q.steps k))
      go (no h) (no k) =
          let e : r.steps ≡ q.steps = omega arith in
          let w : r.stop ≡ q.stop = one_reason allowed free t q.steps r.stop q.stop (subst (λ z. StopsByNext rules allowed free t z r.stop) e a.stops) b.stops in
          λ i. record { steps = e i; stop = w i }

  -- ---- what follows

  -- the steps made are within what is allowed
  pub reduces_within : (allowed free : ℕ) (t : Term) (r : Reduced) → ByNext rules allowed free t r → r.steps ≤ allowed
  reduces_within allowed free t r a = go r.steps a.made
    where
      go : (n : ℕ) → ((k : ℕ) → k < n → GoesByNext rules allowed free t k) → n ≤ allowed
      go zero h = omega arith
      go (suc k) h = let j = (h k (omega arith)).allowed_on in omega arith

  -- and there is room for the term after them
  pub made_room : (allowed free : ℕ) (t : Term) (n : ℕ) → ((k : ℕ) → k < n → GoesByNext rules allowed free t k) → symbols (run rules n t) ≤ free + symbols t
  made_room allowed free t zero h = omega arith
  made_room allowed free t (suc k) h =
      let g = h k (omega arith) in
      let w : suc k ≡ k + 1 = omega arith in
      let z : run rules (suc k) t ≡ g.onto = ap (λ i. run rules i t) w ∙ sym (run_then rules k 1 t) ∙ run_on rules 0 (run rules k t) g.onto g.is_next in
      subst (λ v. symbols v ≤ free + symbols t) (sym z) g.room

  pub reduces_room : (allowed free : ℕ) (t : Term) (r : Reduced) → ByNext rules allowed free t r → symbols (run rules r.steps t) ≤ free + symbols t
  reduces_room allowed free t r a = made_room allowed free t r.steps a.made

-- ---- in words

module _ (sig : Sig) (rules : List Rule) (over : RulesOf sig rules) where
  next_step : (t u : Term) → next rules t ≡ some u → NextStep rules t u
  next_step t u e = (next_is_next_step sig rules over t u).0 e

  is_next : (t u : Term) → NextStep rules t u → next rules t ≡ some u
  is_next t u w = (next_is_next_step sig rules over t u).1 w

  nowhere : (t : Term) → next rules t ≡ none → MatchesNowhere rules t
  nowhere t e = (no_next_step sig rules over t).0 e

  no_next : (t : Term) → MatchesNowhere rules t → next rules t ≡ none
  no_next t w = let (a, b, c) = no_next_step sig rules over t in c (b w)

  module _ (allowed free : ℕ) (t : Term) where
    goes_on_so : (n : ℕ) → symbols (run rules n t) ≤ free + symbols t → GoesByNext rules allowed free t n → GoesOn rules allowed free t n
    goes_on_so n h g = let j = g.room in record { onto = g.onto; is_next = next_step (run rules n t) g.onto g.is_next; allowed_on = g.allowed_on; room = omega arith }

    stops_so : (n : ℕ) (s : Stop) → symbols (run rules n t) ≤ free + symbols t → StopsByNext rules allowed free t n s → StopsFor rules allowed free t n s
    stops_so n finished h w = nowhere (run rules n t) w
    stops_so n spent h w = (λ m. w.0 (no_next (run rules n t) m), w.1)
    stops_so n short h w = let j = w.1.2 in (w.0, (w.1.0, next_step (run rules n t) w.1.0 w.1.1, omega arith))

    reduction_so : (r : Reduced) → ByNext rules allowed free t r → IsReduction rules allowed free t r
    reduction_so r a = record { goes = λ n h. goes_on_so n (room n (λ k j. a.made k (omega arith))) (a.made n h); stops = stops_so r.steps r.stop (room r.steps a.made) a.stops }
      where
        room : (n : ℕ) → ((k : ℕ) → k < n → GoesByNext rules allowed free t k) → symbols (run rules n t) ≤ free + symbols t
        room n h = made_room rules allowed free t n h

    -- there is room after each step, so it goes on by `next`
    goes_by_next : (n : ℕ) → symbols (run rules n t) ≤ free + symbols t → GoesOn rules allowed free t n → GoesByNext rules allowed free t n
    goes_by_next n h g = let j = g.room in record { allowed_on = g.allowed_on; onto = g.onto; is_next = is_next (run rules n t) g.onto g.is_next; room = omega arith }

    stops_by_next : (n : ℕ) (s : Stop) → symbols (run rules n t) ≤ free + symbols t → StopsFor rules allowed free t n s → StopsByNext rules allowed free t n s
    stops_by_next n finished h w = no_next (run rules n t) w
    stops_by_next n spent h w = (λ e. w.0 (nowhere (run rules n t) e), w.1)
    stops_by_next n short h w = let j = w.1.2 in (w.0, (w.1.0, is_next (run rules n t) w.1.0 w.1.1, omega arith))

    all_by_next : (n : ℕ) → ((k : ℕ) → k < n → GoesOn rules allowed free t k) → (k : ℕ) → k < n → GoesByNext rules allowed free t k
    all_by_next zero h k j = absurd (omega arith)
    all_by_next (suc n) h k j = go (all_by_next n (λ i l. h i (omega arith))) (ℕ_discrete k n)
      where
        go : ((k : ℕ) → k < n → GoesByNext rules allowed free t k) → Dec (k ≡ n) → GoesByNext rules allowed free t k
        go rec (no e) = rec k (omega arith)
        go rec (yes e) = goes_by_next k (made_room rules allowed free t k (λ i l. rec i (omega arith))) (h k j)

    reduction_by_next : (r : Reduced) → IsReduction rules allowed free t r → ByNext rules allowed free t r
    reduction_by_next r a =
        let made = all_by_next r.steps a.goes in
        record { made = made; stops = stops_by_next r.steps r.stop (made_room rules allowed free t r.steps made) a.stops }

pub reductions_fixed : ReductionsFixed
reductions_fixed sig rules over allowed free t r = (
  λ a. one_reduction rules allowed free t r (reduction rules allowed free t) (reduction_by_next sig rules over allowed free t r a) (reduces rules allowed free t),
  λ e. subst (IsReduction rules allowed free t) (sym e) (reduction_so sig rules over allowed free t (reduction rules allowed free t) (reduces rules allowed free t)),
)
