-- What reading a sheet is.
use Rattle.std.proofs.Common.{◌≡◌, ℕ, ◌≤◌, leb, List, length, take, drop, Ok, Err, Result, sym, refl, ap, ◌∙◌, subst, inl, inr, append-nil}
use Rattle.std.specs.List.{AllByRecursion}
use Rattle.std.proofs.lemmas.Bool.{cond-true, cond_both, le-leb, leb-true, leb-false}
use Rattle.std.proofs.ByRecursion.{All-take, All-drop}
use Rattle.reading.specs.declared.fault.TextFault.TheVariants.{Stray, BadNumber, Unexpected, Undeclared, WrongArity, PastLimit}
use Rattle.reading.specs.Tokens.{Tok, tokens, whole, origin}
use Rattle.reading.specs.Reading.{top, within, wants, opens, has}
use Rattle.reading.specs.Heading.{sheet_limit}
use Rattle.reading.specs.Laws.{Wrong, first_of}
use Rattle.reading.proofs.Equal.{not_both, same_ok}
use Rattle.reading.proofs.Tokens.{whole_tokens, Lexed, tokens_lexed, first_lexed}
use Rattle.reading.proofs.Running.{passed, run_on, run_ends, run_stops}
use Rattle.reading.specs.declared.fault.SheetFault.{SheetFault}
use Rattle.reading.specs.declared.fault.SheetFault.TheVariants.{Text, Repeated, Headless, Doubled, Unbound}
use Rattle.sheet_reading.specs.Sheet.{Sheet, SheetShaped, limits, SheetWithin, sheet_text}
use Rattle.sheet_reading.specs.Sides.{on_left, on_right}
use Rattle.sheet_reading.specs.Reading.{Stand, in_heading, wants_value, has_value, has_word, in_rule, rule_end, sheet_step, sheet_end, sheet_run, read_sheet}
use Rattle.sheet_reading.specs.Laws.{Begins, rank, FirstWrong, Explained, SheetLaw}
use Rattle.sheet_reading.proofs.Stands.{reach, start}
use Rattle.sheet_reading.proofs.Written.{tokens_sheet}
use Rattle.sheet_reading.proofs.SideFacts.{OfLimit}
use Rattle.sheet_reading.proofs.Causes.{Cause}
use Rattle.sheet_reading.proofs.Telling.{tells, cause}
use Rattle.sheet_reading.proofs.Back.{behind_sheet, sheet_back}
use Rattle.sheet_reading.proofs.Completing.{begun, begins}
use Rattle.sheet_reading.proofs.Choosing.{Chosen, chosen}
use Rattle.sheet_reading.proofs.Stuck.{stuck}
use Rattle.sheet_reading.proofs.Beyond.{none_beyond}

-- a sheet may end only behind its last rule

rule_ends : (sig : _) (grid : _) (rules : _) (d : _) (s : _) (at : _) (t : Sheet) → rule_end sig grid rules d s at ≡ Ok t → in_rule sig grid rules d s ≡ behind_sheet t
rule_ends sig grid rules on_left (wants top) at t e = ap behind_sheet (same_ok e)
rule_ends sig grid rules on_left (wants (within f a ts n k)) at t e = not_both (sym e)
rule_ends sig grid rules (on_right l) (wants k) at t e = not_both (sym e)
rule_ends sig grid rules d (opens f a n k) at t e = not_both (sym e)
rule_ends sig grid rules d (has u b k) at t e = not_both (sym e)

ends : (s : Stand) (at : _) (t : Sheet) → sheet_end s at ≡ Ok t → s ≡ behind_sheet t
ends (in_heading h) at t e = not_both (sym e)
ends (wants_value sig grid vs) at t e = not_both (sym e)
ends (has_value sig grid vs) at t e = not_both (sym e)
ends (has_word sig grid) at t e = not_both (sym e)
ends (in_rule sig grid rules d s) at t e = rule_ends sig grid rules d s at t e

no_limit : (f : SheetFault) → (rank f ≡ 6 → ⊥) → OfLimit f → ⊥
no_limit (Text (Stray a)) n h = h
no_limit (Text (BadNumber a)) n h = h
no_limit (Text (Unexpected a)) n h = h
no_limit (Text (Undeclared a)) n h = h
no_limit (Text (WrongArity a)) n h = h
no_limit (Text (PastLimit a)) n h = n refl
no_limit (Repeated a) n h = h
no_limit (Headless a) n h = h
no_limit (Doubled a) n h = h
no_limit (Unbound a) n h = h

module _ (b : List ℕ) where
  accepted_run : (t : Sheet) → sheet_run limits start origin (tokens b) ≡ Ok t → SheetShaped t × SheetWithin limits t × (sheet_text t ≡ b)
  accepted_run t e =
      let (s, r, q) = run_ends (sheet_step limits) sheet_end start origin (tokens b) t e in
      let same = ends s (passed origin (tokens b)) t q in
      let z = tells (tokens b) (behind_sheet t) (tokens_lexed 0 b) (r ∙ ap Ok same) in
      let shaped : SheetShaped t = z.is_good.shaped in (
        shaped,
        z.is_good.within,
        sym (whole_tokens 0 (sheet_text t)) ∙ ap whole (tokens_sheet t shaped ∙ sym (append-nil _ ∙ append-nil _) ∙ z.so_far) ∙ whole_tokens 0 b,
      )

  refused_run : (f : SheetFault) → sheet_run limits start origin (tokens b) ≡ Err f → FirstWrong b f
  refused_run f e =
      let y = run_stops (sheet_step limits) sheet_end start origin (tokens b) f e in
      let ks : List Tok = take y.before (tokens b) in
      let w : Wrong = first_of (drop y.before (tokens b)) in
      let lexed : AllByRecursion Lexed ks = All-take Lexed y.before (tokens b) (tokens_lexed 0 b) in
      let next = first_lexed (drop y.before (tokens b)) (All-drop Lexed y.before (tokens b) (tokens_lexed 0 b)) in
      let z = tells ks y.state lexed y.there in
      let c : Chosen ks w f = chosen ks y.state lexed y.there w f y.refuses (subst (λ l. Cause l w f) z.so_far (cause y.state (passed origin ks) w f z.is_good z.place y.refuses next)) in
      record {
        before = y.before;
        begins = subst Begins z.so_far (begins y.state (begun y.state z.is_good));
        none_before = none_beyond ks y.state lexed y.there;
        stuck = λ n. stuck ks y.state y.there w f y.refuses (no_limit f n);
        applies = c.0;
        goes_first = c.1;
      }

  explained_run : (r : Result Sheet SheetFault) → sheet_run limits start origin (tokens b) ≡ r → length b ≤ sheet_limit → Explained b r
  explained_run (Ok t) e l = let (h, w, q) = accepted_run t e in (h, w, q, l)
  explained_run (Err f) e l = inr (l, refused_run f e)

  explained : Explained b (read_sheet b)
  unfolding read_sheet
  explained = cond_both (leb (length b) sheet_limit) (sheet_run limits start origin (tokens b)) (Err (Text (PastLimit origin))) (Explained b)
      (λ e. explained_run (sheet_run limits start origin (tokens b)) refl (leb-true (length b) sheet_limit e))
      (λ e. inl (leb-false (length b) sheet_limit e, refl))

  accepted : (s : Sheet) → SheetShaped s → SheetWithin limits s → sheet_text s ≡ b → length b ≤ sheet_limit → read_sheet b ≡ Ok s
  unfolding read_sheet
  accepted s h w e l =
      cond-true _ _ _ (le-leb (length b) sheet_limit l)
      ∙ run_on (sheet_step limits) sheet_end start origin (tokens b) (behind_sheet s) s
      (ap (λ x. reach limits start origin (tokens x)) (sym e) ∙ ap (reach limits start origin) (tokens_sheet s h) ∙ sheet_back limits s h w origin) refl

pub sheet_law : (b : List ℕ) → SheetLaw b
sheet_law b = record { explained = explained b; accepted = accepted b }
