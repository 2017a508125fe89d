-- No ticket goes on with what a state refuses, and when it is unexpected or undeclared.
use Rattle.std.proofs.Common.{◌≡◌, ℕ, ◌≤◌, false, List, [], ◌∷◌, ◌++◌, Some, None, Ok, sym, refl, ap, ◌∙◌, subst, arith}
use Rattle.std.proofs.lemmas.Bool.{both_ways}
use Rattle.terms.specs.Term.{Term}
use Rattle.terms.specs.Signature.{Sig, found, Declared}
use Rattle.reading.specs.declared.token.At.{At}
use Rattle.reading.specs.declared.fault.TextFault.{TextFault}
use Rattle.reading.specs.declared.fault.TextFault.TheVariants.{Stray, BadNumber, Unexpected, Undeclared, WrongArity, PastLimit}
use Rattle.reading.specs.Tokens.{Tok, a_name, origin}
use Rattle.reading.specs.Reading.{top, State, wants, has, step, ending}
use Rattle.reading.specs.Laws.{Begins, WholeTicket, Wrong, StuckAt, heads, kind, Allowed, NotAllowed, Miscounted, Behind, Applies, rank}
use Rattle.reading.proofs.Equal.{not_both, same_ok}
use Rattle.reading.proofs.Running.{reach, passed, reach_split, reach_first, Refuses}
use Rattle.reading.proofs.Back.{reads}
use Rattle.reading.proofs.Taking.{takes, Fits, fits}
use Rattle.reading.proofs.Miscounting.{miscount, miscounted_shows}
use Rattle.reading.proofs.Choosing.{Late}
use Rattle.std.proofs.lemmas.Option.{none-some}

module _ {sig : Sig} (good : Declared sig) (ks : List Tok) (s : State) (reached : reach sig (wants top) origin ks ≡ Ok s) where
  -- a ticket that goes on with a token is read on
  goes_on : (k : Tok) → Begins sig (ks ++ (k ∷ [])) → (u : State) × (step sig s (passed origin ks) k ≡ Ok u)
  goes_on k b =
      let (t, h, more) = b in
      let (rest, e) = more in
      let (m, r) = reads good t h top origin in
      let (v, p, q) = reach_split (step sig) (wants top) origin (ks ++ (k ∷ [])) rest (has t m top) (ap (reach sig (wants top) origin) (sym e) ∙ r) in
      let (x, y, z) = reach_split (step sig) (wants top) origin ks (k ∷ []) v p in
      let (u, i, j) = reach_first (step sig) s (passed origin ks) k [] v (ap (λ x. reach sig x (passed origin ks) (k ∷ [])) (same_ok (sym reached ∙ y)) ∙ z) in
      (u, i)

  ends_here : WholeTicket sig ks → (t : Term) × (ending s (passed origin ks) ≡ Ok t)
  ends_here b =
      let (t, h, e) = b in
      let (m, r) = reads good t h top origin in
      (t, ap (λ x. ending x (passed origin ks)) (same_ok (sym reached ∙ ap (reach sig (wants top) origin) (sym e) ∙ r)))

  pub stuck : (w : Wrong) (f : TextFault) → Refuses (step sig) ending s (passed origin ks) w f → StuckAt sig ks w
  stuck None f h = λ b. let (t, e) = ends_here b in not_both (sym e ∙ h)
  stuck (Some k) f h = λ b. let (u, e) = goes_on k b in not_both (sym e ∙ h)

  pub not_allowed : (k : Tok) → takes s (kind k) ≡ false → Allowed sig ks (kind k) → ⊥
  not_allowed k h b =
      let (j, e, c) = b in
      let (u, i) = goes_on j c in
      both_ways (takes s (kind j)) (ap (takes s) e ∙ h) (subst (Fits (takes s (kind j))) i (fits sig s (passed origin ks) j))

  well_counted : (w : Wrong) (a : At) → miscount s w ≡ None → Miscounted sig ks w a → ⊥
  well_counted w a h c =
      let (b, e) = miscounted_shows good ks w a s c reached in
      none-some _ (sym h ∙ e)

  pub late_unexpected : (w : Wrong) (at : At) → Behind ks at → NotAllowed sig ks w → miscount s w ≡ None → Late sig ks w (Unexpected at)
  late_unexpected w at p n h = record { due = (p, n); least = least }
    where
      least : (g : TextFault) → 3 ≤ rank g → Applies sig ks w g → 4 ≤ rank g
      least (Stray a) l b = absurd (omega arith)
      least (BadNumber a) l b = absurd (omega arith)
      least (Unexpected a) l b = omega arith
      least (Undeclared a) l b = omega arith
      least (WrongArity a) l b = absurd (well_counted w a h b)
      least (PastLimit a) l b = omega arith

  pub late_undeclared : (n : List ℕ) (at : At) → Behind ks at → Allowed sig ks heads → found sig n ≡ None → miscount s (Some (a_name n)) ≡ None → Late sig ks (Some (a_name n)) (Undeclared at)
  late_undeclared n at p b e h = record { due = (p, b, (n, refl, e)); least = least }
    where
      least : (g : TextFault) → 3 ≤ rank g → Applies sig ks (Some (a_name n)) g → 5 ≤ rank g
      least (Stray a) l c = absurd (omega arith)
      least (BadNumber a) l c = absurd (omega arith)
      least (Unexpected a) l c = absurd (c.1 b)
      least (Undeclared a) l c = omega arith
      least (WrongArity a) l c = absurd (well_counted _ a h c)
      least (PastLimit a) l c = omega arith
