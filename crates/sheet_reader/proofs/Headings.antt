-- The heading of a sheet, read by its machine.
use Rattle.std.proofs.Common.{◌≡◌, ℕ, ◌+◌, ◌≤◌, List, [], ◌∷◌, ◌++◌, length, length-append, Ok, Err, Result, sym, refl, ap, ◌∙◌, subst, arith}
use Rattle.lexer.specs.declared.token.Lexeme.{Lexeme}
use Rattle.lexer.specs.declared.token.Lexer.{Lexer}
use Rattle.lexer.specs.Lexing.{meaning, what_is_left, ReadToken}
use Rattle.terms.specs.Signature.{Sig}
use Rattle.reading.specs.declared.heading.Stage.TheVariants.{WantsName, HasName, WantsCount, HasCount, Done}
use Rattle.reading.specs.declared.fault.SheetFault.{SheetFault}
use Rattle.reading.specs.Tokens.{Tok, tokens, token_bytes, whole, origin, past}
use Rattle.reading.specs.declared.token.At.{At}
use Rattle.reading.specs.Reading.{chain, run_with}
use Rattle.sheet_reading.specs.Sheet.{limits}
use Rattle.reading.specs.Heading.{Head, head_step, head_end}
use Rattle.reading.proofs.Tokens.{whole_tokens}
use Rattle.reading.proofs.Equal.{not_both, same_ok}
use Rattle.reading.proofs.Running.{chain_ok}
use Rattle.signature.specs.declared.Signature.{Signature}
use Rattle.signature.specs.Declaring.{sig_of}
use Rattle.reader.specs.Machine.{IsWithin, Stepped, Finished}
use Rattle.sheet_reading.specs.Reading.{Stand, wants_value, headed, sheet_step}
use Rattle.sheet_reader.specs.Progress.{start, Reached, Meets, Goes, EndsEarly, outcome}
use Rattle.sheet_reader.proofs.Progress.{met, taken, refused}

-- the bytes of some tokens and of others
long_whole : (ks ls : List Tok) → length (whole (ks ++ ls)) ≡ length (whole ks) + length (whole ls)
long_whole [] ls = omega arith
long_whole (k ∷ ks) ls = omega (arith, length-append (token_bytes k) (whole (ks ++ ls)), length-append (token_bytes k) (whole ks), long_whole ks ls)

-- a place lies behind the bytes of the tokens before it
far : (s : Stand) (at : At) (ks : List Tok) (v : Stand × At) → run_with (sheet_step limits) (λ u a. Ok (u, a)) s at ks ≡ Ok v → v.1.place ≡ at.place + length (whole ks)
far s at [] v e = omega (arith, ap (λ (x : Stand × At). x.1.place) (same_ok e))
far s at (k ∷ ks) v e =
    let (u, q, r) = chain_ok (sheet_step limits s at k) (λ w. run_with (sheet_step limits) (λ u a. Ok (u, a)) w (past at k) ks) v e in
    omega (arith, far u (past at k) ks v r, length-append (token_bytes k) (whole ks))

-- the text must not end within it
pub heading_early : (h : Head) → (h.1 ≡ Done → ⊥) → EndsEarly (headed h)
heading_early (sig, WantsName) more at = refl
heading_early (sig, HasName) more at = refl
heading_early (sig, WantsCount f) more at = refl
heading_early (sig, HasCount f) more at = refl
heading_early (sig, Done) more at = absurd (more refl)

module _ (b : List ℕ) where
  -- a place that is reached, and what is left behind it
  pub placed : (s : Stand) (l : Lexer) → Reached b s l → l.at.place + length (what_is_left l) ≡ length b
  placed s l r =
      omega (
        arith,
        far start origin r.before (s, l.at) r.there,
        ap length (whole_tokens 0 b),
        ap (λ ks. length (whole ks)) r.split,
        long_whole r.before (tokens (what_is_left l)),
        ap length (whole_tokens 0 (what_is_left l)),
      )

  -- a token that is read is within the text
  pub is_within : (limit : ℕ) (s : Stand) (l : Lexer) (x : Lexeme) (m : Lexer) → length b ≤ limit → Reached b s l → ReadToken l x m → IsWithin limit x
  is_within limit s l x m few r t =
      let some = t.some_bytes in
      record {
        some_bytes = some;
        in_reach = omega (arith, placed s l r, ap (λ at. at.place) t.its_place, ap length t.part, length-append (token_bytes (meaning x.token)) (what_is_left m));
      }

  -- the machine takes a token
  pub head_taken : (h g : Head) (x : Lexeme) (l : Lexer) → (h.1 ≡ Done → ⊥) → Meets b (headed h) x l → head_step 32 h x.at (meaning x.token) ≡ Ok g → Reached b (headed g) l
  head_taken (sig, WantsName) g x l more m e = taken b _ (headed g) x l m (ap (λ r. chain r (λ u. Ok (headed u))) e)
  head_taken (sig, HasName) g x l more m e = taken b _ (headed g) x l m (ap (λ r. chain r (λ u. Ok (headed u))) e)
  head_taken (sig, WantsCount f) g x l more m e = taken b _ (headed g) x l m (ap (λ r. chain r (λ u. Ok (headed u))) e)
  head_taken (sig, HasCount f) g x l more m e = taken b _ (headed g) x l m (ap (λ r. chain r (λ u. Ok (headed u))) e)
  head_taken (sig, Done) g x l more m e = absurd (more refl)

  -- or refuses it
  pub head_refused : (h : Head) (f : SheetFault) (x : Lexeme) (l : Lexer) → (h.1 ≡ Done → ⊥) → Meets b (headed h) x l → head_step 32 h x.at (meaning x.token) ≡ Err f → outcome b ≡ Err f
  head_refused (sig, WantsName) f x l more m e = refused b _ x l f m (ap (λ r. chain r (λ u. Ok (headed u))) e)
  head_refused (sig, HasName) f x l more m e = refused b _ x l f m (ap (λ r. chain r (λ u. Ok (headed u))) e)
  head_refused (sig, WantsCount n) f x l more m e = refused b _ x l f m (ap (λ r. chain r (λ u. Ok (headed u))) e)
  head_refused (sig, HasCount n) f x l more m e = refused b _ x l f m (ap (λ r. chain r (λ u. Ok (headed u))) e)
  head_refused (sig, Done) f x l more m e = absurd (more refl)

  -- so each token leads on, or is refused
  pub stepped : (h g : Head) (x : Lexeme) (l m : Lexer) (r : Result (Unit {0}) SheetFault) → length b ≤ 32768 → (h.1 ≡ Done → ⊥) → Reached b (headed h) l → ReadToken l x m
      → (IsWithin 32768 x → (s : Head) → s ≡ h → Stepped r (head_step 32 s x.at (meaning x.token)) (λ u. u ≡ g)) → Goes b r (λ _. Reached b (headed g) m)
  stepped h g x l m (Ok u) few more z t next =
      let (v, e, q) = next (is_within 32768 (headed h) l x m few z t) h refl in
      subst (λ k. Reached b (headed k) m) q (head_taken h v x m more (met b (headed h) l x m z t) e)
  stepped h g x l m (Err f) few more z t next = head_refused h f x m more (met b (headed h) l x m z t) (next (is_within 32768 (headed h) l x m few z t) h refl)

  -- the heading is read
  pub finished : (h : Head) (l : Lexer) (r : Result Signature SheetFault) → h.1 ≡ Done → Reached b (headed h) l
      → Finished (λ (x : Signature) (sig : Sig). sig ≡ sig_of x) r (head_end h l.at) → Goes b r (λ signature. Reached b (wants_value (sig_of signature) [] []) l)
  finished (sig, st) l (Ok x) d z (v, q, k) =
      subst (λ s. Reached b (wants_value s [] []) l) (same_ok (ap (λ j. head_end (sig, j) l.at) (sym d) ∙ q) ∙ k) (subst (λ j. Reached b (headed (sig, j)) l) d z)
  finished (sig, st) l (Err f) d z k = not_both (ap (λ j. head_end (sig, j) l.at) (sym d) ∙ k)
