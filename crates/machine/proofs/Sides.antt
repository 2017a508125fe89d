-- Two sides get one answer, the function's.
use Rattle.std.proofs.Common.{◌≡◌, ◌≢◌, refl, sym, ◌∙◌, ap, ap₂, inl, inr, List, Some, None, Option, ℕ, ◌-◌, ◌≤◌, le-leb, arith}
use Rattle.std.proofs.lemmas.Bool.{lt-leb}
use Rattle.std.proofs.Math.Decide.{ℕ_discrete, dec_le}
use Rattle.terms.specs.Term.{Term, symbols, term_discrete}
use Rattle.terms.specs.Signature.{Sig}
use Rattle.terms.specs.Rule.{Rule}
use Rattle.rewriting.specs.Rules.{RulesOf}
use Rattle.rewriting.specs.Next.{run}
use Rattle.reading.specs.declared.refusal.Refusal.{Refusal}
use Rattle.machine.specs.Refusals.{different_ends, side_spent, side_short}
use Rattle.machine.specs.Reducing.{Stop, finished, spent, short, Reduced, IsReduction}
use Rattle.machine.specs.Admission.{step_limit, or_else, stop_refusal, side_reduced, side_end, side_refusal, ends_refusal, sides_refusal}
use Rattle.machine.specs.Sides.{SideStops, SideShort, SideSpent, SidesAnswer, first_short, first_spent, second_short, second_spent, ends_differ, ends_agree}
use Rattle.machine.specs.Laws.{SidesTested}
use Rattle.machine.proofs.Reducing.{reductions_fixed}

module _ (sig : Sig) (rules : List Rule) (over : RulesOf sig rules) (outer inner : ℕ) where
  -- a side that stops is reduced so
  stops_reduced : (free : ℕ) (t : Term) (n : ℕ) (stop : Stop) → SideStops rules free t n stop → record { steps = n; stop = stop } ≡ side_reduced rules free t
  stops_reduced free t n stop a = (reductions_fixed sig rules over step_limit (free - symbols t) t (record { steps = n; stop = stop })).0 a.reduction

  -- ---- of one side

  stops_refusal : (free : ℕ) (t : Term) (n : ℕ) (stop : Stop) → SideStops rules free t n stop → side_refusal rules free outer inner t ≡ stop_refusal outer inner stop
  stops_refusal free t n stop a = rw (le-leb (symbols t) free a.loads) (ap (λ r. stop_refusal outer inner r.stop) (sym (stops_reduced free t n stop a)))

  stops_end : (free : ℕ) (t : Term) (n : ℕ) (stop : Stop) → SideStops rules free t n stop → side_end rules free t ≡ run rules n t
  stops_end free t n stop a = ap (λ r. run rules r.steps t) (sym (stops_reduced free t n stop a))

  short_refusal : (free : ℕ) (t : Term) → SideShort rules free t → side_refusal rules free outer inner t ≡ Some (side_short outer inner)
  short_refusal free t (inl h) = rw (lt-leb (symbols t) free h) refl
  short_refusal free t (inr (n, a)) = stops_refusal free t n short a

  -- it stops somehow
  data Side (free : ℕ) (t : Term) : Type 0 where
    is_short : SideShort rules free t → Side free t
    is_spent : SideSpent rules free t → Side free t
    is_finished : (n : ℕ) → SideStops rules free t n finished → Side free t

  side : (free : ℕ) (t : Term) → Side free t
  side free t = go (dec_le (symbols t) free)
    where
      reduced : (r : Reduced) → symbols t ≤ free → IsReduction rules step_limit (free - symbols t) t r → Side free t
      reduced r h a = stopped r.stop a
        where
          stopped : (stop : Stop) → IsReduction rules step_limit (free - symbols t) t (record { steps = r.steps; stop = stop }) → Side free t
          stopped finished a = is_finished r.steps (record { loads = h; reduction = a })
          stopped spent a = is_spent (r.steps, record { loads = h; reduction = a })
          stopped short a = is_short (inr (r.steps, record { loads = h; reduction = a }))

      go : Dec (symbols t ≤ free) → Side free t
      go (no h) = is_short (inl (omega arith))
      go (yes h) = reduced (side_reduced rules free t) h ((reductions_fixed sig rules over step_limit (free - symbols t) t (side_reduced rules free t)).1 refl)

  -- ---- of the two

  agree : (t u : Term) → t ≡ u → ends_refusal outer inner t u ≡ None
  agree t u e = go (term_discrete ℕ_discrete t u)
    where
      go : (d : Dec (t ≡ u)) → (elim d as (λ _. Option Refusal) [ yes same ↦ None | no differ ↦ Some (different_ends outer inner) ]) ≡ None
      go (yes q) = refl
      go (no n) = absurd (n e)

  differ : (t u : Term) → t ≢ u → ends_refusal outer inner t u ≡ Some (different_ends outer inner)
  differ t u n = go (term_discrete ℕ_discrete t u)
    where
      go : (d : Dec (t ≡ u)) → (elim d as (λ _. Option Refusal) [ yes same ↦ None | no differ ↦ Some (different_ends outer inner) ]) ≡ Some (different_ends outer inner)
      go (yes q) = absurd (n q)
      go (no n) = refl

  module _ (nodes : ℕ) (t u : Term) where
    -- where the first side is refused, and where it has ended
    at_first : (r : Refusal) → side_refusal rules nodes outer inner t ≡ Some r → sides_refusal rules nodes outer inner t u ≡ Some r
    at_first r e = ap (λ o. or_else o (or_else (side_refusal rules (nodes - symbols (side_end rules nodes t)) outer inner u) (ends_refusal outer inner (side_end rules nodes t) (side_end rules (nodes - symbols (side_end rules nodes t)) u)))) e

    beside : (n : ℕ) → SideStops rules nodes t n finished
        → sides_refusal rules nodes outer inner t u ≡ or_else (side_refusal rules (nodes - symbols (run rules n t)) outer inner u) (ends_refusal outer inner (run rules n t) (side_end rules (nodes - symbols (run rules n t)) u))
    beside n a = ap₂ (λ o x. or_else o (or_else (side_refusal rules (nodes - symbols x) outer inner u) (ends_refusal outer inner x (side_end rules (nodes - symbols x) u)))) (stops_refusal nodes t n finished a) (stops_end nodes t n finished a)

    at_ends : (n k : ℕ) → SideStops rules nodes t n finished → SideStops rules (nodes - symbols (run rules n t)) u k finished → sides_refusal rules nodes outer inner t u ≡ ends_refusal outer inner (run rules n t) (run rules k u)
    at_ends n k a b = beside n a ∙ ap₂ (λ o x. or_else o (ends_refusal outer inner (run rules n t) x)) (stops_refusal (nodes - symbols (run rules n t)) u k finished b) (stops_end (nodes - symbols (run rules n t)) u k finished b)

    answer_given : (answer : Option Refusal) → SidesAnswer rules nodes outer inner t u answer → answer ≡ sides_refusal rules nodes outer inner t u
    answer_given answer (first_short a e) = e ∙ sym (at_first (side_short outer inner) (short_refusal nodes t a))
    answer_given answer (first_spent a e) = e ∙ sym (at_first (side_spent outer inner) (stops_refusal nodes t a.0 spent a.1))
    answer_given answer (second_short n a b e) =
        e ∙ sym (beside n a ∙ ap (λ o. or_else o (ends_refusal outer inner (run rules n t) (side_end rules (nodes - symbols (run rules n t)) u))) (short_refusal (nodes - symbols (run rules n t)) u b))
    answer_given answer (second_spent n a b e) =
        e ∙ sym (beside n a ∙ ap (λ o. or_else o (ends_refusal outer inner (run rules n t) (side_end rules (nodes - symbols (run rules n t)) u))) (stops_refusal (nodes - symbols (run rules n t)) u b.0 spent b.1))
    answer_given answer (ends_differ n k a b d e) = e ∙ sym (at_ends n k a b ∙ differ (run rules n t) (run rules k u) d)
    answer_given answer (ends_agree n k a b q e) = e ∙ sym (at_ends n k a b ∙ agree (run rules n t) (run rules k u) q)

    -- there is an answer
    answered : (o : Option Refusal) → sides_refusal rules nodes outer inner t u ≡ o → SidesAnswer rules nodes outer inner t u o
    answered o e = first (side nodes t)
      where
        third : (n k : ℕ) → SideStops rules nodes t n finished → SideStops rules (nodes - symbols (run rules n t)) u k finished → Dec (run rules n t ≡ run rules k u) → SidesAnswer rules nodes outer inner t u o
        third n k a b (yes q) = ends_agree n k a b q (sym e ∙ at_ends n k a b ∙ agree (run rules n t) (run rules k u) q)
        third n k a b (no d) = ends_differ n k a b d (sym e ∙ at_ends n k a b ∙ differ (run rules n t) (run rules k u) d)

        second : (n : ℕ) → SideStops rules nodes t n finished → Side (nodes - symbols (run rules n t)) u → SidesAnswer rules nodes outer inner t u o
        second n a (is_short b) = second_short n a b (sym e ∙ sym (answer_given (Some (side_short outer inner)) (second_short n a b refl)))
        second n a (is_spent b) = second_spent n a b (sym e ∙ sym (answer_given (Some (side_spent outer inner)) (second_spent n a b refl)))
        second n a (is_finished k b) = third n k a b (term_discrete ℕ_discrete (run rules n t) (run rules k u))

        first : Side nodes t → SidesAnswer rules nodes outer inner t u o
        first (is_short a) = first_short a (sym e ∙ at_first (side_short outer inner) (short_refusal nodes t a))
        first (is_spent a) = first_spent a (sym e ∙ at_first (side_spent outer inner) (stops_refusal nodes t a.0 spent a.1))
        first (is_finished n a) = second n a (side (nodes - symbols (run rules n t)) u)

pub sides_tested : SidesTested
sides_tested sig rules over nodes outer inner t u answer = (answer_given sig rules over outer inner nodes t u answer, λ e. answered sig rules over outer inner nodes t u answer (sym e))
