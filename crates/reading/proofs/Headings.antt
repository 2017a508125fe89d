-- What reading a heading is.
use Rattle.std.proofs.Common.{◌≡◌, ℕ, ◌≤◌, leb, List, [], ◌∷◌, ◌++◌, length, Ok, Err, Result, sym, refl, ap, ◌∙◌, subst, append-nil, take, Some, None, drop}
use Rattle.std.specs.List.{AllByRecursion}
use Rattle.std.proofs.lemmas.Bool.{cond_both, cond-true, le-leb}
use Rattle.terms.specs.Signature.{Sig, Declared}
use Rattle.reading.specs.declared.token.At.{At}
use Rattle.reading.specs.declared.heading.Stage.TheVariants.{WantsName, HasName, WantsCount, HasCount, Done}
use Rattle.reading.specs.declared.fault.TextFault.TheVariants.{PastLimit}
use Rattle.reading.specs.declared.fault.SheetFault.{SheetFault}
use Rattle.reading.specs.declared.fault.SheetFault.TheVariants.{Text}
use Rattle.reading.specs.Tokens.{Tok, tokens, whole, origin, past}
use Rattle.reading.specs.Heading.{Head, head_step, head_end, head_run, sheet_limit, read_heading, heading_text}
use Rattle.reading.specs.HeadingLaw.{OfHeading, HeadingLaw}
use Rattle.reading.specs.Laws.{Wrong, first_of}
use Rattle.reading.proofs.Equal.{not_both, same_ok, same_fault}
use Rattle.reading.proofs.Tokens.{Lexed, tokens_lexed, whole_tokens, first_lexed}
use Rattle.reading.proofs.Lines.{heading_tokens, whole_heading, tokens_heading, heading_short}
use Rattle.reading.proofs.Running.{reach_with, passed, all_along, run_ends, run_on, run_stops, Refuses}
use Rattle.reading.proofs.Heads.{head_tokens, HeadReason, not_allowed, many_names, named_twice, bad_count, HeadGood, HeadSaid, said_head, none}
use Rattle.reading.proofs.HeadingBack.{heading_back}
use Rattle.std.proofs.ByRecursion.{All-take, All-drop}

-- the heading that is read so far
abbrev Told : Head → List Tok → At → Type 0
Told h ks at = HeadGood 32 h × (head_tokens h ≡ ks)

told_next : (h : Head) (ks : List Tok) (at : At) (k : Tok) (g : Head) → Lexed k → Told h ks at → head_step 32 h at k ≡ Ok g → Told g (ks ++ (k ∷ [])) (past at k)
told_next h ks at k g l t e =
    let (a, b) = subst (HeadSaid 32 h k at) e (said_head 32 h at k l t.0) in
    (a, b ∙ ap (λ js. js ++ (k ∷ [])) t.1)

tells : (ks : List Tok) (at : At) (h : Head) → AllByRecursion Lexed ks → reach_with (head_step 32) ([], WantsName) at ks ≡ Ok h → Told h ks (passed at ks)
tells ks at h l e = all_along (head_step 32) Lexed Told told_next ks ([], WantsName) [] at h l (none 32, refl) e

-- the end of a heading
ends : (h : Head) (at : At) (sig : Sig) → head_end h at ≡ Ok sig → h ≡ (sig, Done)
ends (s, WantsName) at sig e = not_both (sym e)
ends (s, HasName) at sig e = not_both (sym e)
ends (s, WantsCount f) at sig e = not_both (sym e)
ends (s, HasCount f) at sig e = not_both (sym e)
ends (s, Done) at sig e = ap (λ x. (x, Done)) (same_ok e)

-- an accepted heading has the tokens of the signature that is read
pub heading_told : (ks : List Tok) (at : At) (sig : Sig) → AllByRecursion Lexed ks → head_run 32 ([], WantsName) at ks ≡ Ok sig → Declared sig × (1 ≤ length sig) × (length sig ≤ 32) × (ks ≡ heading_tokens sig)
heading_told ks at sig l e =
    let (h, r, q) = run_ends (head_step 32) head_end ([], WantsName) at ks sig e in
    let (g, t) = tells ks at (sig, Done) l (r ∙ ap Ok (ends h (passed at ks) sig q)) in
    (g.0.declared, g.1, g.0.few, sym t)

-- the fault of a token is one of a heading
fair : (h : Head) (at : At) (k : Tok) (f : SheetFault) → HeadReason 32 h k at f → OfHeading f
fair h at k f (not_allowed e) = subst OfHeading (sym e) tt
fair h at k f (many_names sig s p q l e) = subst OfHeading (sym e) tt
fair h at k f (named_twice sig s i p q l e) = subst OfHeading (sym e) tt
fair h at k f (bad_count s q e) = subst OfHeading (sym e) tt

fair_end : (h : Head) (at : At) (f : SheetFault) → head_end h at ≡ Err f → OfHeading f
fair_end (sig, WantsName) at f e = subst OfHeading (same_fault e) tt
fair_end (sig, HasName) at f e = subst OfHeading (same_fault e) tt
fair_end (sig, WantsCount i) at f e = subst OfHeading (same_fault e) tt
fair_end (sig, HasCount i) at f e = subst OfHeading (same_fault e) tt
fair_end (sig, Done) at f e = not_both e

fair_stop : (h : Head) (at : At) (w : Wrong) (f : SheetFault) → HeadGood 32 h → ((k : Tok) → w ≡ Some k → Lexed k) → Refuses (head_step 32) head_end h at w f → OfHeading f
fair_stop h at None f g l e = fair_end h at f e
fair_stop h at (Some k) f g l e = fair h at k f (subst (HeadSaid 32 h k at) e (said_head 32 h at k (l k refl) g))

module _ (b : List ℕ) where
  abbrev Heads : Sig → Type 0
  Heads sig = Declared sig × (1 ≤ length sig) × (length sig ≤ 32) × (heading_text sig ≡ b)

  accepted_run : (sig : Sig) → head_run 32 ([], WantsName) origin (tokens b) ≡ Ok sig → Heads sig
  accepted_run sig e =
      let (d, some, few, t) = heading_told (tokens b) origin sig (tokens_lexed 0 b) e in
      (d, some, few, sym (whole_heading sig) ∙ ap whole (sym t) ∙ whole_tokens 0 b)

  refused_run : (f : SheetFault) → head_run 32 ([], WantsName) origin (tokens b) ≡ Err f → OfHeading f
  refused_run f e =
      let y = run_stops (head_step 32) head_end ([], WantsName) origin (tokens b) f e in
      let ks : List Tok = take y.before (tokens b) in
      let z = tells ks origin y.state (All-take Lexed y.before (tokens b) (tokens_lexed 0 b)) y.there in
      fair_stop y.state (passed origin ks) (first_of (drop y.before (tokens b))) f z.0 (first_lexed (drop y.before (tokens b)) (All-drop Lexed y.before (tokens b) (tokens_lexed 0 b))) y.refuses

  accepted : (sig : Sig) → read_heading b ≡ Ok sig → Heads sig
  unfolding read_heading
  accepted sig = cond_both (leb (length b) sheet_limit) (head_run 32 ([], WantsName) origin (tokens b)) (Err (Text (PastLimit origin))) (λ (r : Result Sig SheetFault). r ≡ Ok sig → Heads sig) (λ _. accepted_run sig) (λ _ e. not_both (sym e))

  refused : (f : SheetFault) → read_heading b ≡ Err f → OfHeading f
  unfolding read_heading
  refused f = cond_both (leb (length b) sheet_limit) (head_run 32 ([], WantsName) origin (tokens b)) (Err (Text (PastLimit origin))) (λ (r : Result Sig SheetFault). r ≡ Err f → OfHeading f) (λ _. refused_run f) (λ _ e. subst OfHeading (same_fault e) tt)

  read_back : (sig : Sig) → Declared sig → 1 ≤ length sig → length sig ≤ 32 → heading_text sig ≡ b → read_heading b ≡ Ok sig
  unfolding read_heading sheet_limit
  read_back sig good some few e =
      ap read_heading (sym e)
      ∙ cond-true (leb (length (heading_text sig)) sheet_limit) _ _ (le-leb (length (heading_text sig)) sheet_limit (heading_short good few))
      ∙ ap (head_run 32 ([], WantsName) origin) (ap tokens (sym (append-nil (heading_text sig))) ∙ tokens_heading good [] ∙ append-nil (heading_tokens sig))
      ∙ run_on (head_step 32) head_end ([], WantsName) origin (heading_tokens sig) (sig, Done) sig (heading_back 32 sig good some few origin) refl

pub heading_law : (b : List ℕ) → HeadingLaw b
heading_law b = record { accepted = accepted b; read_back = read_back b; refused = refused b }
