-- Reading a text further.
use Rattle.std.proofs.Common.{◌≡◌, ℕ, true, false, List, [], ◌∷◌, ◌++◌, codes, None, Ok, Err, Option, Result, sym, refl, ap, ◌∙◌, subst, append_assoc}
use Rattle.std.specs.List.{AllByRecursion}
use Rattle.std.specs.Result.{IsErrAnd}
use Rattle.lexer.specs.declared.token.Lexeme.{Lexeme}
use Rattle.lexer.specs.declared.token.Lexer.{Lexer}
use Rattle.lexer.specs.Lexing.{meaning, what_is_left, ReadToken, Lexed}
use Rattle.reading.specs.declared.token.At.{At}
use Rattle.std.proofs.lemmas.Bool.{cond-true, cond-false}
use Rattle.std.proofs.lemmas.Bool.{and_from}
use Rattle.reading.specs.declared.token.Mark.{Mark}
use Rattle.reading.specs.declared.token.Mark.TheVariants.{Opening, Closing, Comma, Equals, Dash, Blank, LineEnd}
use Rattle.reading.specs.declared.fault.TextFault.TheVariants.{Unexpected}
use Rattle.reading.specs.declared.fault.SheetFault.{SheetFault}
use Rattle.reading.specs.declared.fault.SheetFault.TheVariants.{Text}
use Rattle.reading.specs.Tokens.{Tok, a_name, a_number, an_instrument, a_variable, a_mark, a_stray, tokens, origin, past}
use Rattle.reading.specs.Reading.{chain, run_with}
use Rattle.reading.proofs.Running.{reach_with, chain_ok}
use Rattle.reading.proofs.Tokens.{Lexed as WellCut, tokens_lexed}
use Rattle.sheet_reading.specs.Sheet.{limits}
use Rattle.terms.specs.Signature.{Sig}
use Rattle.sheet_reading.specs.Values.{Grid}
use Rattle.sheet_reading.specs.Reading.{Stand, wants_value, has_word, is_mark, is_word, rules_may_come, sheet_step, sheet_end}
use Rattle.sheet_reading.proofs.Goods.{Good}
use Rattle.sheet_reading.proofs.Telling.{tells}
use Rattle.sheet_reader.specs.Progress.{start, behind, outcome, Reached, Meets, Goes, EndsEarly, Wants, misplaced}

module _ {S E : Type 0} (next : S → At → Tok → Result S E) where
  -- the state and the place behind some tokens
  abbrev walk : S → At → List Tok → Result (S × At) E
  walk = run_with next (λ s at. Ok (s, at))

  -- behind the first tokens a run goes on with the others
  pub walked : {A : Type 0} (end : S → At → Result A E) (s : S) (at : At) (ks ls : List Tok) → run_with next end s at (ks ++ ls) ≡ chain (walk s at ks) (λ v. run_with next end v.0 v.1 ls)
  walked end s at [] ls = refl
  walked end s at (k ∷ ks) ls =
      elim (next s at k) as (λ r. chain r (λ u. run_with next end u (past at k) (ks ++ ls)) ≡ chain (chain r (λ u. walk u (past at k) ks)) (λ v. run_with next end v.0 v.1 ls))
      [ Ok u ↦ walked end u (past at k) ks ls | Err g ↦ refl ]

  -- and there is the state that is reached
  pub walk_reach : (s : S) (at : At) (ks : List Tok) (v : S × At) → walk s at ks ≡ Ok v → reach_with next s at ks ≡ Ok (v.0)
  walk_reach s at [] v e = ap (λ (r : Result (S × At) E). chain r (λ u. Ok u.0)) e
  walk_reach s at (k ∷ ks) v e =
      let (u, q, r) = chain_ok (next s at k) (λ w. walk w (past at k) ks) v e in
      ap (λ (r : Result S E). chain r (λ w. reach_with next w (past at k) ks)) q ∙ walk_reach u (past at k) ks v r

-- what holds of each kind of token, and of each mark, holds of every token
pub each_token : (P : Tok → Type 0) → ((s : List ℕ) → P (a_name s)) → ((s : List ℕ) → P (a_number s)) → ((s : List ℕ) → P (an_instrument s)) → ((x : ℕ) → P (a_variable x)) → ((b : ℕ) → P (a_stray b))
    → P (a_mark Opening) → P (a_mark Closing) → P (a_mark Comma) → P (a_mark Equals) → P (a_mark Dash) → P (a_mark Blank) → P (a_mark LineEnd) → (tok : Tok) → P tok
each_token P name number instrument variable stray opening closing comma equals dash blank line_end (a_name s) = name s
each_token P name number instrument variable stray opening closing comma equals dash blank line_end (a_number s) = number s
each_token P name number instrument variable stray opening closing comma equals dash blank line_end (an_instrument s) = instrument s
each_token P name number instrument variable stray opening closing comma equals dash blank line_end (a_variable x) = variable x
each_token P name number instrument variable stray opening closing comma equals dash blank line_end (a_stray b) = stray b
each_token P name number instrument variable stray opening closing comma equals dash blank line_end (a_mark Opening) = opening
each_token P name number instrument variable stray opening closing comma equals dash blank line_end (a_mark Closing) = closing
each_token P name number instrument variable stray opening closing comma equals dash blank line_end (a_mark Comma) = comma
each_token P name number instrument variable stray opening closing comma equals dash blank line_end (a_mark Equals) = equals
each_token P name number instrument variable stray opening closing comma equals dash blank line_end (a_mark Dash) = dash
each_token P name number instrument variable stray opening closing comma equals dash blank line_end (a_mark Blank) = blank
each_token P name number instrument variable stray opening closing comma equals dash blank line_end (a_mark LineEnd) = line_end

-- the first of some things that all have a property
all_before : {A : Type 0} (P : A → Type 0) (xs ys zs : List A) → zs ≡ xs ++ ys → AllByRecursion P zs → AllByRecursion P xs
all_before P [] ys zs e h = tt
all_before P (x ∷ xs) ys zs e h = let z = subst (AllByRecursion P) e h in (z.0, all_before P xs ys (xs ++ ys) refl z.1)

module _ (b : List ℕ) where
  -- what the whole text comes to, by its first tokens
  from_there : (ks ls : List Tok) (s : Stand) (at : At) → tokens b ≡ ks ++ ls → behind ks ≡ Ok (s, at) → outcome b ≡ run_with (sheet_step limits) sheet_end s at ls
  from_there ks ls s at e q =
      ap (λ ts. run_with (sheet_step limits) sheet_end start origin ts) e
      ∙ walked (sheet_step limits) sheet_end start origin ks ls
      ∙ ap (λ (r : Result (Stand × At) SheetFault). chain r (λ v. run_with (sheet_step limits) sheet_end v.0 v.1 ls)) q

  -- a token was read
  pub met : (s : Stand) (l : Lexer) (x : Lexeme) (m : Lexer) → Reached b s l → ReadToken l x m → Meets b s x m
  met s l x m r t = record {
    before = r.before;
    split = r.split ∙ ap (λ ks. r.before ++ ks) t.first;
    there = r.there ∙ ap (λ at. Ok (s, at)) (sym t.its_place);
    at_behind = t.behind ∙ ap (λ at. past at (meaning x.token)) (sym t.its_place);
  }

  -- a token is accepted
  pub taken : (s u : Stand) (x : Lexeme) (l : Lexer) → Meets b s x l → sheet_step limits s x.at (meaning x.token) ≡ Ok u → Reached b u l
  taken s u x l m e =
      let k = meaning x.token in
      record {
        before = m.before ++ (k ∷ []);
        split = m.split ∙ sym (append_assoc m.before (k ∷ []) (tokens (what_is_left l)));
        there = walked (sheet_step limits) (λ v at. Ok (v, at)) start origin m.before (k ∷ [])
            ∙ ap (λ (r : Result (Stand × At) SheetFault). chain r (λ v. run_with (sheet_step limits) (λ w at. Ok (w, at)) v.0 v.1 (k ∷ []))) m.there
            ∙ ap (λ (r : Result Stand SheetFault). chain r (λ w. Ok (w, past x.at k))) e
            ∙ ap (λ at. Ok (u, at)) (sym m.at_behind);
      }

  -- a token is refused
  pub refused : (s : Stand) (x : Lexeme) (l : Lexer) (f : SheetFault) → Meets b s x l → sheet_step limits s x.at (meaning x.token) ≡ Err f → outcome b ≡ Err f
  refused s x l f m e =
      let k = meaning x.token in
      from_there m.before (k ∷ tokens (what_is_left l)) s x.at m.split m.there
      ∙ ap (λ (r : Result Stand SheetFault). chain r (λ u. run_with (sheet_step limits) sheet_end u (past x.at k) (tokens (what_is_left l)))) e

  -- the text ends
  pub ends : (s : Stand) (l : Lexer) → Reached b s l → what_is_left l ≡ [] → outcome b ≡ sheet_end s l.at
  ends s l r e = from_there r.before (tokens (what_is_left l)) s l.at r.split r.there ∙ ap (λ bs. run_with (sheet_step limits) sheet_end s l.at (tokens bs)) e

  -- the text ends where it must not
  pub ended : (s : Stand) (l m : Lexer) (f : SheetFault) → EndsEarly s → Reached b s l → Lexed l None m → f ≡ Text (Unexpected m.at) → outcome b ≡ Err f
  ended s l m f h r (e, q, p) g = ends s l r e ∙ h l.at ∙ ap (λ at. Err (Text (Unexpected at))) (sym p) ∙ ap Err (sym g)

  -- what is said of the stands that are reached
  pub good : (s : Stand) (l : Lexer) → Reached b s l → Good s
  good s l r = (tells r.before s (all_before WellCut r.before (tokens (what_is_left l)) (tokens b) r.split (tokens_lexed 0 b)) (walk_reach (sheet_step limits) start origin r.before (s, l.at) r.there)).is_good

  -- with nothing read
  pub begins : (l : Lexer) → what_is_left l ≡ b → l.at ≡ origin → Reached b start l
  begins l e p = record { before = []; split = ap tokens (sym e); there = ap (λ at. Ok (start, at)) (sym p) }

-- the fault of the text is passed on
pub gave_up : {A : Type 0} (b : List ℕ) (r : Result A SheetFault) {f : SheetFault} (Then : A → Type 0) → outcome b ≡ Err f → IsErrAnd r (λ e. e ≡ f) → Goes b r Then
gave_up b (Ok x) Then g h = absurd h
gave_up b (Err k) Then g h = g ∙ ap Err (sym h)

-- what holds behind it is followed by something else
pub goes_map : {A : Type 0} (b : List ℕ) (r : Result A SheetFault) (On Then : A → Type 0) → ((x : A) → On x → Then x) → Goes b r On → Goes b r Then
goes_map b (Ok x) On Then h g = h x g
goes_map b (Err f) On Then h g = g

module _ (b : List ℕ) (s u : Stand) (bare : Option At) (mark : Mark) (w : Wants s bare mark u) (x : Lexeme) (l : Lexer) (m : Meets b s x l) where
  -- the mark comes
  pub came : is_mark mark (meaning x.token) ≡ true → Reached b u l
  came e = taken b s u x l m (w x.at (meaning x.token) ∙ cond-true _ _ _ e)

  -- another token comes
  pub came_not : (f : SheetFault) → is_mark mark (meaning x.token) ≡ false → f ≡ Text (misplaced bare (meaning x.token) x.at) → outcome b ≡ Err f
  came_not f e q = refused b s x l f m (w x.at (meaning x.token) ∙ cond-false _ _ _ e ∙ ap Err (sym q))

-- the word 'rules' comes where it may
pub word_came : (b : List ℕ) (sig : Sig) (grid : Grid) (l m : Lexer) (x : Lexeme) → rules_may_come grid [] ≡ true → Reached b (wants_value sig grid []) l → ReadToken l x m
    → is_word (codes "rules") (meaning x.token) ≡ true → Reached b (has_word sig grid) m
word_came b sig grid l m x may r t q =
    taken b (wants_value sig grid []) (has_word sig grid) x m (met b (wants_value sig grid []) l x m r t) (cond-true _ _ _ (and_from _ _ may q))
