-- Reducing a term: the next steps that are allowed and possible, and why it stops. As a function and as a relation.
use Rattle.std.specs.Prelude.{◌≡◌, ℕ, zero, suc, ◌+◌, ◌-◌, ◌<◌, ◌≤◌, true, false, List, nat_le}
use Rattle.std.proofs.Math.Option.{none, some}
use Rattle.terms.specs.Term.{Term, symbols}
use Rattle.terms.specs.Rule.{Rule}
use Rattle.rewriting.specs.Rules.{MatchesNowhere}
use Rattle.rewriting.specs.Next.{NextStep, next, run}

-- no rule matches anywhere; or all steps allowed are made; or the next step needs more nodes than are free
pub data Stop : Type 0 where
  finished : Stop
  spent : Stop
  short : Stop

-- the steps made, and why no more
pub record Reduced : Type 0 where
  pub steps : ℕ
  pub stop : Stop

abbrev pub at_once : Stop → Reduced
at_once stop = record { steps = 0; stop = stop }

abbrev pub after_a_step : Reduced → Reduced
after_a_step r = record { steps = suc r.steps; stop = r.stop }

-- the nodes that a step needs: the symbols after it, less those before it
abbrev pub needed : Term → Term → ℕ
needed t u = symbols u - symbols t

-- the free nodes after a step
abbrev pub free_after : ℕ → Term → Term → ℕ
free_after free t u = (free + symbols t) - symbols u

-- with so many steps allowed, and so many nodes free: before the first step, and after each, finished if there is no next one, else spent if all are made, else short if the next one needs more nodes than are free
abbrev pub reduction : List Rule → ℕ → ℕ → Term → Reduced
reduction rules zero free t = elim (next rules t) [ none ↦ at_once finished | some u ↦ at_once spent ]
reduction rules (suc allowed) free t =
    elim (next rules t) [
      | none ↦ at_once finished
      | some u ↦ elim (nat_le (needed t u) free) [
        | true ↦ after_a_step (reduction rules allowed (free_after free t u) u)
        | false ↦ at_once short
      ]
    ]

-- after n next steps there is one more, it is allowed, and there are the free nodes that it needs
pub record GoesOn (rules : List Rule) (allowed free : ℕ) (t : Term) (n : ℕ) : Type 0 where
  pub onto : Term
  pub is_next : NextStep rules (run rules n t) onto
  pub allowed_on : n < allowed
  pub room : needed (run rules n t) onto ≤ free_after free t (run rules n t)

-- after n next steps it stops for this reason
abbrev pub StopsFor : List Rule → ℕ → ℕ → Term → ℕ → Stop → Type 0
StopsFor rules allowed free t n finished = MatchesNowhere rules (run rules n t)
StopsFor rules allowed free t n spent = (MatchesNowhere rules (run rules n t) → ⊥) × (n ≡ allowed)
StopsFor rules allowed free t n short = (n < allowed) × ((u : Term) × NextStep rules (run rules n t) u × (free_after free t (run rules n t) < needed (run rules n t) u))

-- before the first step and after each it goes on, and after the last it stops
pub record IsReduction (rules : List Rule) (allowed free : ℕ) (t : Term) (r : Reduced) : Type 0 where
  pub goes : (n : ℕ) → n < r.steps → GoesOn rules allowed free t n
  pub stops : StopsFor rules allowed free t r.steps r.stop
