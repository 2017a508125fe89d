-- What reading a ticket answers.
use Rattle.std.proofs.Common.{◌≡◌, ℕ, ◌<◌, ◌≤◌, leb, List, length, None, Ok, Err, Result, refl, sym, ap, ◌∙◌, subst}
use Rattle.std.proofs.lemmas.Bool.{cond_both, cond-false, leb-true, leb-false, lt-leb}
use Rattle.std.specs.Result.{IsErrAnd}
use Rattle.terms.specs.declared.layout.Layout.{Layout}
use Rattle.terms.specs.Term.{Term}
use Rattle.terms.specs.Signature.{Sig, Declared}
use Rattle.terms.specs.Layout.{in_use, LaysOut}
use Rattle.terms.proofs.Laying.{length-laid, ticket_narrow, laid_stands}
use Rattle.reading.specs.declared.fault.TextFault.{TextFault}
use Rattle.reading.specs.declared.fault.TextFault.TheVariants.{PastLimit}
use Rattle.reading.specs.Tokens.{tokens, origin}
use Rattle.reading.specs.Reading.{wants, top, run, ticket_limit, read_ticket}
use Rattle.reading.specs.Laws.{Explained}
use Rattle.reading.proofs.Reading.{ticket_law}
use Rattle.reader.proofs.Going.{is_err}
use Rattle.reader.specs.Machine.{Finished}
use Rattle.reader.specs.Ticket.{Reads}

-- a text that is too long is refused for that
pub long_text : (sig : Sig) (text : List ℕ) → 4096 < length text → read_ticket sig text ≡ Err (PastLimit origin)
unfolding read_ticket ticket_limit
long_text sig text h = cond-false _ _ _ (lt-leb (length text) 4096 h)

module _ (sig : Sig) (d : Declared sig) (text : List ℕ) where
  -- what is laid out is a ticket, so it stands where it is laid
  answered : (o : Result Term TextFault) (r : Result (Layout 2048) TextFault) → read_ticket sig text ≡ o → Finished (λ l t. LaysOut l t) r o → Reads r o
  answered o (Ok l) e (t, g, laid) =
      let told : Explained sig text (Ok t) = subst (Explained sig text) (e ∙ g) (ticket_law sig d text).explained in
      record { ticket = t; given = g; in_order = laid; stands = laid_stands (in_use l) t (ticket_narrow sig d t told.0) laid; counted = ap length laid ∙ length-laid 0 None t }
  answered o (Err f) e h = h

  -- what the driver answers is what the definition gives
  pub ticket_read : (r : Result (Layout 2048) TextFault) → (length text ≤ 4096 → Finished (λ l t. LaysOut l t) r (run sig (wants top) origin (tokens text)))
      → (4096 < length text → IsErrAnd r (λ e. e ≡ PastLimit origin)) → Reads r (read_ticket sig text)
  unfolding read_ticket ticket_limit
  ticket_read r within beyond = cond_both (leb (length text) 4096) _ _ (λ o. read_ticket sig text ≡ o → Reads r o) (λ e q. answered _ r q (within (leb-true _ _ e))) (λ e q. subst (λ z. Reads z (Err (PastLimit origin))) (sym (is_err r _ (beyond (leb-false _ _ e)))) refl) refl
