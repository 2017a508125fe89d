-- No sheet goes on with what is refused, but for a limit.
use Rattle.std.proofs.Common.{◌≡◌, ℕ, ◌+◌, ◌≤◌, List, [], ◌∷◌, ◌++◌, length, Some, None, Ok, Err, sym, ap, ◌∙◌, subst, arith}
use Rattle.std.specs.List.{AllByRecursion}
use Rattle.terms.specs.Term.{Term, symbols}
use Rattle.terms.specs.Rule.{Rule, levels}
use Rattle.reading.specs.Tokens.{Tok, tokens, origin}
use Rattle.reading.specs.Laws.{Wrong}
use Rattle.reading.proofs.Equal.{not_both, same_ok}
use Rattle.reading.proofs.Running.{passed, reach_split, reach_first, Refuses}
use Rattle.reading.specs.declared.fault.SheetFault.{SheetFault}
use Rattle.sheet_reading.specs.Sheet.{Sheet, SheetShaped, Limits, limits, SheetWithin, sheet_text}
use Rattle.sheet_reading.specs.Reading.{Stand, sheet_step, sheet_end}
use Rattle.sheet_reading.specs.Laws.{Begins, StuckAt}
use Rattle.sheet_reading.proofs.SideFacts.{More, OfLimit}
use Rattle.sheet_reading.proofs.Stands.{reach, start}
use Rattle.sheet_reading.proofs.Written.{tokens_sheet}
use Rattle.sheet_reading.proofs.Back.{behind_sheet, sheet_back}
use Rattle.sheet_reading.proofs.SideLimits.{Stays}
use Rattle.sheet_reading.proofs.Larger.{sheet_stays, reached}

-- limits that a sheet is within

abbrev total : (Term → ℕ) → List Rule → ℕ
total f [] = 0
total f (r ∷ rs) = f r.left + (f r.right + total f rs)

abbrev wide : Sheet → Limits
wide s = record { operators = 32 + length s.operators; rules = 32 + length s.rules; symbols = 32 + total symbols s.rules; levels = 16 + total levels s.rules }

small : (a b : ℕ) (rs : List Rule) → total symbols rs ≤ a → total levels rs ≤ b → AllByRecursion (λ (r : Rule). ((symbols r.left ≤ a) × (levels r.left ≤ b)) × ((symbols r.right ≤ a) × (levels r.right ≤ b))) rs
small a b [] h j = tt
small a b (r ∷ rs) h j = (((omega arith, omega arith), (omega arith, omega arith)), small a b rs (omega arith) (omega arith))

within_wide : (s : Sheet) → SheetWithin (wide s) s
within_wide s = record { few_operators = omega arith; few_rules = omega arith; small_sides = small (32 + total symbols s.rules) (16 + total levels s.rules) s.rules (omega arith) (omega arith) }

more_wide : (s : Sheet) → More limits (wide s)
more_wide s = record { operators = omega arith; rules = omega arith; symbols = omega arith; levels = omega arith }

-- a sheet's tokens are read within wide limits
read_wide : (t : Sheet) → SheetShaped t → reach (wide t) start origin (tokens (sheet_text t)) ≡ Ok (behind_sheet t)
read_wide t h = ap (reach (wide t) start origin) (tokens_sheet t h) ∙ sheet_back (wide t) t h (within_wide t) origin

module _ (ks : List Tok) (s : Stand) (there : reach limits start origin ks ≡ Ok s) where
  -- so is the stand
  there_wide : (t : Sheet) → reach (wide t) start origin ks ≡ Ok s
  there_wide t = reached limits (wide t) (more_wide t) start origin ks s there

  -- behind a whole sheet it stands where a rule may begin
  pub is_behind : (t : Sheet) → SheetShaped t → tokens (sheet_text t) ≡ ks → s ≡ behind_sheet t
  is_behind t h q = same_ok (sym (there_wide t) ∙ ap (reach (wide t) start origin) (sym q) ∙ read_wide t h)

  -- a sheet that goes on with a token is read on, within some limits
  pub goes_on : (k : Tok) → Begins (ks ++ (k ∷ [])) → (n : Limits) × More limits n × ((u : Stand) × (sheet_step n s (passed origin ks) k ≡ Ok u))
  goes_on k b =
      let (t, h, more) = b in
      let (rest, q) = more in
      let n : Limits = wide t in
      let (v, x, y) = reach_split (sheet_step n) start origin (ks ++ (k ∷ [])) rest (behind_sheet t) (ap (reach n start origin) (sym q) ∙ read_wide t h) in
      let (u, i, j) = reach_split (sheet_step n) start origin ks (k ∷ []) v x in
      let same : u ≡ s = same_ok (sym i ∙ there_wide t) in
      let (z, a, c) = reach_first (sheet_step n) u (passed origin ks) k [] v j in
      (n, more_wide t, (z, ap (λ x. sheet_step n x (passed origin ks) k) (sym same) ∙ a))

  pub stuck : (w : Wrong) (f : SheetFault) → Refuses (sheet_step limits) sheet_end s (passed origin ks) w f → (OfLimit f → ⊥) → StuckAt ks w
  stuck None f e free = λ b.
      let (t, h, q) = b in
      not_both (sym (ap (λ x. sheet_end x (passed origin ks)) (is_behind t h q)) ∙ e)
  stuck (Some k) f e free = λ b.
      let (n, more, y) = goes_on k b in
      let (u, a) = y in
      let refused : sheet_step n s (passed origin ks) k ≡ Err f = subst (λ r. Stays r (sheet_step n s (passed origin ks) k)) e (sheet_stays limits n more s (passed origin ks) k) free in
      not_both (sym a ∙ refused)
