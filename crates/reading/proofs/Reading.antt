-- What reading a ticket is.
use Rattle.std.proofs.Common.{◌≡◌, ℕ, ◌≤◌, leb, List, length, take, drop, Ok, Err, Result, sym, refl, ap, ◌∙◌, subst, inl, inr}
use Rattle.std.proofs.lemmas.Bool.{cond-true, cond_both, le-leb, leb-true, leb-false}
use Rattle.std.proofs.ByRecursion.{All-take}
use Rattle.terms.specs.Term.{Term}
use Rattle.terms.specs.Signature.{Sig, Declared}
use Rattle.terms.specs.Ticket.{Ticket}
use Rattle.terms.specs.Text.{text_of}
use Rattle.reading.specs.declared.fault.TextFault.{TextFault}
use Rattle.reading.specs.declared.fault.TextFault.TheVariants.{PastLimit}
use Rattle.reading.specs.Tokens.{Tok, tokens, whole, origin}
use Rattle.reading.specs.Reading.{top, wants, has, step, ending, run, ticket_limit, read_ticket}
use Rattle.reading.specs.Laws.{Begins, Wrong, first_of, FirstWrong, Explained, TicketLaw}
use Rattle.reading.proofs.Tokens.{Lexed, tokens_lexed, whole_tokens}
use Rattle.reading.proofs.Running.{reach, passed, ended, run_on, run_ends, run_stops}
use Rattle.reading.proofs.Back.{reads}
use Rattle.reading.proofs.Telling.{tells}
use Rattle.reading.proofs.Completing.{begins}
use Rattle.reading.proofs.Refusing.{stuck}
use Rattle.reading.proofs.Choosing.{Chosen}
use Rattle.reading.proofs.Giving.{There, gives}

module _ {sig : Sig} (good : Declared sig) (b : List ℕ) where
  accepted_run : (t : Term) → run sig (wants top) origin (tokens b) ≡ Ok t → Ticket sig t × (text_of sig t ≡ b)
  accepted_run t e =
      let (s, r, q) = run_ends (step sig) ending (wants top) origin (tokens b) t e in
      let (m, same) = ended s (passed origin (tokens b)) t q in
      let z = tells good (tokens b) (has t m top) (tokens_lexed 0 b) (r ∙ ap Ok same) in
      (z.is_good.0, sym (whole_tokens 0 (text_of sig t)) ∙ ap whole z.so_far ∙ whole_tokens 0 b)

  refused_run : (f : TextFault) → run sig (wants top) origin (tokens b) ≡ Err f → FirstWrong sig b f
  refused_run f e =
      let y = run_stops (step sig) ending (wants top) origin (tokens b) f e in
      let ks : List Tok = take y.before (tokens b) in
      let w : Wrong = first_of (drop y.before (tokens b)) in
      let z = tells good ks y.state (All-take Lexed y.before (tokens b) (tokens_lexed 0 b)) y.there in
      let there : There sig y.state (passed origin ks) = record { is_good = z.is_good; reached = ap (reach sig (wants top) origin) z.so_far ∙ y.there; place = z.place } in
      let c : Chosen sig ks w f = subst (λ l. Chosen sig l w f) z.so_far (gives good y.state (passed origin ks) w f there y.refuses) in
      record {
        before = y.before;
        begins = subst (Begins sig) z.so_far (begins good y.state z.is_good);
        stuck = stuck good ks y.state y.there w f y.refuses;
        applies = c.0;
        goes_first = c.1;
      }

  explained_run : (r : Result Term TextFault) → run sig (wants top) origin (tokens b) ≡ r → length b ≤ ticket_limit → Explained sig b r
  explained_run (Ok t) e l = let (h, q) = accepted_run t e in (h, q, l)
  explained_run (Err f) e l = inr (l, refused_run f e)

  explained : Explained sig b (read_ticket sig b)
  unfolding read_ticket
  explained = cond_both (leb (length b) ticket_limit) (run sig (wants top) origin (tokens b)) (Err (PastLimit origin)) (Explained sig b)
      (λ e. explained_run (run sig (wants top) origin (tokens b)) refl (leb-true (length b) ticket_limit e))
      (λ e. inl (leb-false (length b) ticket_limit e, refl))

  accepted : (t : Term) → Ticket sig t → text_of sig t ≡ b → length b ≤ ticket_limit → read_ticket sig b ≡ Ok t
  unfolding read_ticket
  accepted t h e l =
      let (m, r) = reads good t h top origin in
      cond-true _ _ _ (le-leb (length b) ticket_limit l)
      ∙ run_on (step sig) ending (wants top) origin (tokens b) (has t m top) t (ap (λ x. reach sig (wants top) origin (tokens x)) (sym e) ∙ r) refl

pub ticket_law : (sig : Sig) → Declared sig → (b : List ℕ) → TicketLaw sig b
ticket_law sig good b = record { explained = explained good b; accepted = accepted good b }
