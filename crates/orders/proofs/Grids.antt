-- The interpretation that lines of values give.
use Rattle.std.proofs.Common.{◌≡◌, ℕ, zero, suc, ◌+◌, ◌≤◌, map, Some, cond, ltb, inl, inr, ap, ◌∙◌, sym, refl, arith}
use Rattle.std.proofs.lemmas.Bool.{cond-true, cond-false, cases_lt, lt-ltb, le-ltb}
use Rattle.std.proofs.lemmas.List.{get_or_past, length-map}
use Rattle.sheet_reading.specs.Values.{cell}
use Rattle.weighing.specs.declared.Weighing.{Weighing}
use Rattle.weighing.specs.Weighing.{value_at, written}
use Rattle.orders.specs.Linear.{linear_from}
use Rattle.orders.specs.LinearLaws.{in_line}
use Rattle.orders.specs.Laws.{LinesInterpret}

pub past_lines : (w : Weighing) (line f : ℕ) → 4 ≤ line → value_at w line f ≡ Some 1
past_lines w zero f h = absurd (omega arith)
past_lines w (suc k) f h = in_line (λ v. v ≡ Some 1) (suc k) w.rows f (λ r. get_or_past (map written r.factors) k (Some 1) (omega (arith, length-map r.factors written, r.three))) refl

pub lines_interpret : LinesInterpret
lines_interpret w grid from has = ap linear_from (λ i line f. same line f i)
  where
    same : (line f : ℕ) → value_at w line f ≡ cond (ltb line 4) (cell grid (from + line) f) (Some 1)
    same line f = elim (cases_lt line 4) [
      | inl l ↦ has line f l ∙ sym (cond-true (ltb line 4) (cell grid (from + line) f) (Some 1) (lt-ltb line 4 l))
      | inr l ↦ past_lines w line f l ∙ sym (cond-false (ltb line 4) (cell grid (from + line) f) (Some 1) (le-ltb line 4 l))
    ]
