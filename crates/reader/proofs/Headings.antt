-- The steps that read a heading, and the loop.
use Rattle.std.proofs.Common.{◌≡◌, ℕ, ◌<◌, ◌≤◌, leb, List, [], length, Ok, Err, Result, refl, sym, ap, ◌∙◌, subst}
use Rattle.std.proofs.lemmas.Bool.{cond_both, cond-false, leb-true, leb-false, lt-leb}
use Rattle.terms.specs.Signature.{Sig}
use Rattle.signature.specs.Declaring.{sig_of}
use Rattle.reading.specs.declared.heading.Stage.TheVariants.{WantsName}
use Rattle.reading.specs.declared.fault.TextFault.TheVariants.{PastLimit}
use Rattle.reading.specs.declared.fault.SheetFault.{SheetFault}
use Rattle.reading.specs.declared.fault.SheetFault.TheVariants.{Text}
use Rattle.reading.specs.Tokens.{tokens, origin}
use Rattle.std.specs.Result.{IfErr, IsErrAnd}
use Rattle.reading.specs.HeadingLaw.{OfHeading}
use Rattle.reading.proofs.Headings.{heading_law}
use Rattle.signature.specs.declared.Signature.{Signature}
use Rattle.reader.proofs.Going.{is_err}
use Rattle.reader.specs.Machine.{Finished}
use Rattle.reader.specs.Heading.{Heads}
use Rattle.reading.specs.Heading.{head_run, sheet_limit, read_heading}

-- a text that is too long is refused for that
pub long_sheet : (text : List ℕ) → 32768 < length text → read_heading text ≡ Err (Text (PastLimit origin))
unfolding read_heading sheet_limit
long_sheet text h = cond-false _ _ _ (lt-leb (length text) 32768 h)

-- what the driver answers is what the definition gives
module _ (text : List ℕ) where
  ended : (r : Result Signature SheetFault) (o : Result Sig SheetFault) → Finished (λ x sig. sig ≡ sig_of x) r o → Heads r o
  ended (Ok x) o (sig, e, q) = e ∙ ap Ok q
  ended (Err f) o h = h

  pub heading_read : (r : Result Signature SheetFault) → (length text ≤ 32768 → Finished (λ x sig. sig ≡ sig_of x) r (head_run 32 ([], WantsName) origin (tokens text)))
      → (32768 < length text → IsErrAnd r (λ e. e ≡ Text (PastLimit origin))) → Heads r (read_heading text)
  unfolding read_heading sheet_limit
  heading_read r within beyond = cond_both (leb (length text) 32768) _ _ (Heads r) (λ e. ended r _ (within (leb-true _ _ e))) (λ e. subst (λ z. Heads z (Err (Text (PastLimit origin)))) (sym (is_err r _ (beyond (leb-false _ _ e)))) refl)

  -- what is wrong with a heading
  pub heading_fault : (r : Result Signature SheetFault) → Heads r (read_heading text) → IfErr r OfHeading
  heading_fault (Ok x) h = tt
  heading_fault (Err f) h = (heading_law text).refused f h
