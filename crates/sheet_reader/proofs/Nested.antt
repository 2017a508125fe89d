-- Operators with their arguments.
use Rattle.std.proofs.Common.{◌≡◌, ℕ, suc, ◌+◌, ◌<◌, true, false, Bool, cond, nat_lt, List, [], ◌∷◌, ◌++◌, length, Some, None, Ok, Err, Result, refl, ap, ◌∙◌, subst, append_assoc, arith, length-append}
use Rattle.std.specs.List.{AllByRecursion}
use Rattle.std.proofs.lemmas.Bool.{cond-true, cond-false}
use Rattle.terms.specs.declared.symbol.Symbol.TheVariants.{Operator}
use Rattle.terms.specs.declared.node.Node.{Node}
use Rattle.terms.specs.Nodes.{laid_row}
use Rattle.terms.specs.Layout.{in_use}
use Rattle.terms.specs.Substitution.{occurrences, occurrences_in}
use Rattle.signature.specs.Declaring.{sig_of}
use Rattle.lexer.specs.declared.token.Name.{Name as Named}
use Rattle.lexer.specs.declared.token.Token.{Token}
use Rattle.lexer.specs.declared.token.Token.TheVariants.{Name, Number, Instrument, Variable, Mark, Stray}
use Rattle.terms.specs.Term.{apply, nil, cons}
use Rattle.lexer.specs.declared.token.Lexeme.{Lexeme}
use Rattle.lexer.specs.declared.token.Lexer.{Lexer}
use Rattle.lexer.specs.Lexing.{meaning, what_is_left, ReadToken}
use Rattle.reading.specs.declared.token.At.{At}
use Rattle.reading.specs.declared.token.Mark.TheVariants.{Opening}
use Rattle.reading.specs.declared.fault.TextFault.{TextFault}
use Rattle.reading.specs.declared.fault.TextFault.TheVariants.{Unexpected, WrongArity}
use Rattle.reading.specs.declared.fault.SheetFault.{SheetFault}
use Rattle.reading.specs.declared.fault.SheetFault.TheVariants.{Text}
use Rattle.reading.specs.Tokens.{Tok, a_variable, tokens}
use Rattle.reading.specs.Reading.{Context, within, State, wants, opens, has, named, on_opens, fault_of, chain}
use Rattle.reading.proofs.Tokens.{Lexed as WellCut, tokens_lexed}
use Rattle.sheet_reading.specs.Sides.{Hand as Side, on_left, on_right, in_text, occurrences_before}
use Rattle.sheet_reading.specs.Reading.{is_mark, Stand, rule_end}
use Rattle.sheet_reader.specs.declared.side.Room.{Room}
use Rattle.sheet_reader.specs.declared.side.SideReader.{SideReader}
use Rattle.sheet_reader.specs.declared.side.Whole.{Whole}
use Rattle.sheet_reader.specs.Progress.{outcome, Reached, Meets, Goes}
use Rattle.sheet_reader.specs.Sides.{Around, stand_in, inside, Marked, Fits, begun_with, ReadsLeaf, HasHead, arguments_from, ReadsTerm, ReadsRow}
use Rattle.sheet_reader.proofs.Progress.{each_token, met, taken, refused, ends}

-- behind an operator
on_opening : (tok : Tok) (at : At) (f : ℕ) (a : At) (n : ℕ) (k : Context) → on_opens tok at f a n k ≡ cond (is_mark Opening tok) (Ok (wants (within f a nil n k))) (Err (fault_of tok at (WrongArity a)))
on_opening tok at f a n k =
    each_token (λ j. on_opens j at f a n k ≡ cond (is_mark Opening j) (Ok (wants (within f a nil n k))) (Err (fault_of j at (WrongArity a)))) (λ s. refl) (λ s. refl) (λ s. refl) (λ x. refl) (λ b. refl) refl refl refl refl refl refl refl tok

module _ (b : List ℕ) (i : Around) (f n : ℕ) (a : At) (l : Lexer) (x : Lexeme) (m : Lexer) (r : Reached b (stand_in i (opens f a n i.context)) l) (t : ReadToken l x m) where
  -- '(' comes
  pub opened : is_mark Opening (meaning x.token) ≡ true → Reached b (stand_in i (wants (within f a nil n i.context))) m
  opened e =
      let s = stand_in i (opens f a n i.context) in
      taken b s (stand_in i (wants (within f a nil n i.context))) x m (met b s l x m r t) (ap (λ (o : Result State TextFault). chain (in_text o) (λ u. Ok (stand_in i u))) (on_opening (meaning x.token) x.at f a n i.context ∙ cond-true _ _ _ e))

  -- another token
  pub unopened : is_mark Opening (meaning x.token) ≡ false → outcome b ≡ Err (Text (fault_of (meaning x.token) x.at (WrongArity a)))
  unopened e =
      let s = stand_in i (opens f a n i.context) in
      refused b s x m (Text (fault_of (meaning x.token) x.at (WrongArity a))) (met b s l x m r t) (ap (λ (o : Result State TextFault). chain (in_text o) (λ u. Ok (stand_in i u))) (on_opening (meaning x.token) x.at f a n i.context ∙ cond-false _ _ _ e))

-- the end of the text
opens_end : (i : Around) (d : Side) (f n : ℕ) (a at : At) → rule_end i.operators i.values i.rules d (opens f a n i.context) at ≡ Err (Text (WrongArity a))
opens_end i on_left f n a at = refl
opens_end i (on_right l) f n a at = refl

pub unended : (b : List ℕ) (i : Around) (f n : ℕ) (a : At) (l : Lexer) → Reached b (stand_in i (opens f a n i.context)) l → what_is_left l ≡ [] → outcome b ≡ Err (Text (WrongArity a))
unended b i f n a l r e = ends b (stand_in i (opens f a n i.context)) l r e ∙ opens_end i i.hand f n a l.at

-- where a term may begin

-- one of some things that all have a property
one_of : {A : Type 0} (P : A → Type 0) (xs : List A) (y : A) (ys zs : List A) → zs ≡ xs ++ (y ∷ ys) → AllByRecursion P zs → P y
one_of P [] y ys zs e h = (subst (AllByRecursion P) e h).0
one_of P (x ∷ xs) y ys zs e h = one_of P xs y ys (xs ++ (y ∷ ys)) refl (subst (AllByRecursion P) e h).1

-- a variable is one of eight
pub of_eight : {b : List ℕ} {s : Stand} {x : Lexeme} {l : Lexer} {n : ℕ} → Meets b s x l → meaning x.token ≡ a_variable n → n < 8
of_eight {b} {s} {x} {l} m e = subst WellCut e (one_of WellCut m.before (meaning x.token) (tokens (what_is_left l)) (tokens b) m.split (tokens_lexed 0 b))

-- a token with which no term begins
pub begins_none : (i : Around) (t : Token) (at : At) → ((n : Named) → t ≡ Name n → ⊥) → ((p : _) → t ≡ Instrument p → ⊥) → ((x : ℕ) → t ≡ Variable x → ⊥) → begun_with i (meaning t) at ≡ Err (Text (fault_of (meaning t) at (Unexpected at)))
begins_none i (Name n) at p q r = absurd (p n refl)
begins_none i (Number s) at p q r = refl
begins_none i (Instrument s) at p q r = absurd (q s refl)
begins_none i (Variable x) at p q r = absurd (r x refl)
begins_none i (Mark m) at p q r = refl
begins_none i (Stray b) at p q r = refl

module _ {b : List ℕ} (i : Around) {x : Lexeme} {l : Lexer} (m : Meets b (stand_in i (wants i.context)) x l) where
  -- a token that is accepted
  pub begun_taken : (s : State) → begun_with i (meaning x.token) x.at ≡ Ok s → Reached b (stand_in i s) l
  begun_taken s e = taken b (stand_in i (wants i.context)) (stand_in i s) x l m (ap (λ (o : Result State SheetFault). chain o (λ u. Ok (stand_in i u))) e)

  -- one that is refused
  pub begun_refused : (f : SheetFault) → begun_with i (meaning x.token) x.at ≡ Err f → outcome b ≡ Err f
  begun_refused f e = refused b (stand_in i (wants i.context)) x l f m (ap (λ (o : Result State SheetFault). chain o (λ u. Ok (stand_in i u))) e)

  -- a term of one symbol
  pub leaf_read : (before r : SideReader) (room : Room) (result : Result Whole SheetFault) {k : Tok} → meaning x.token ≡ k → ReadsLeaf before room i result r (begun_with i k x.at) → Goes b result (λ whole. ReadsTerm b before room i whole r l)
  leaf_read before r room (Ok whole) e h = record { term = h.term; goes_on = begun_taken (has h.term whole.bare i.context) (ap (λ j. begun_with i j x.at) e ∙ h.as_defined); nodes = h.nodes; keeps = h.keeps }
  leaf_read before r room (Err f) e h = begun_refused f (ap (λ j. begun_with i j x.at) e ∙ h)

-- an operator

pub marked_as : (marks : List Bool) (d : Side) (f g : ℕ → ℕ) → ((x : ℕ) → f x ≡ g x) → Marked marks d f → Marked marks d g
marked_as marks on_left f g e h x p = h x p ∙ ap (λ n. nat_lt 0 n) (e x)
marked_as marks (on_right l) f g e h x p = h x p

module _ {before r : SideReader} {room below : Room} (i : Around) {at : At} {arity : ℕ} {o : Result State SheetFault} (fits : Fits before room i) (h : HasHead before room i at below arity r o) where
  -- without arguments
  pub bare_read : {b : List ℕ} {l : Lexer} → arity ≡ 0 → Reached b (stand_in i (named h.operator arity at i.context)) l → ReadsTerm b before room i (record { bare = Some at; spare = below.symbols }) r l
  bare_read {b} {l} e g = record {
    term = apply h.operator nil;
    goes_on = subst (λ n. Reached b (stand_in i (named h.operator n at i.context)) l) e g;
    nodes = h.nodes ∙ ap (λ n. in_use before.nodes ++ record { symbol = Some (Operator h.operator); first = arguments_from (length (in_use before.nodes)) n; next = None } ∷ []) e;
    keeps = record {
      signature = ap (λ (y : SideReader). y.signature) h.others;
      hand = ap (λ (y : SideReader). y.hand) h.others;
      marked = rw (ap (λ (y : SideReader). y.variables) h.others) (marked_as before.variables i.hand (λ x. occurrences_before x i.context) (λ x. occurrences x (apply h.operator nil) + occurrences_before x i.context) (λ x. omega arith) fits.marked);
      spare_left = omega (arith, h.falls.0);
    };
  }

  -- where '(' must come
  pub opens_there : {b : List ℕ} {l : Lexer} {more : ℕ} → arity ≡ suc more → Reached b (stand_in i (named h.operator arity at i.context)) l → Reached b (stand_in i (opens h.operator at more i.context)) l
  opens_there {b} {l} e g = subst (λ n. Reached b (stand_in i (named h.operator n at i.context)) l) e g

  -- where its first argument may begin
  pub head_fits : (more : ℕ) → Fits r below (inside i h.operator at nil more)
  head_fits more = record {
    operators = ap (λ (y : SideReader). sig_of y.signature.now) h.others ∙ fits.operators;
    hand = rw (ap (λ (y : SideReader). y.hand) h.others) fits.hand;
    nodes = ap length h.nodes ∙ length-append (in_use before.nodes) _ ∙ omega (arith, fits.nodes);
    marked = rw (ap (λ (y : SideReader). y.variables) h.others) (marked_as before.variables i.hand (λ x. occurrences_before x i.context) (λ x. occurrences_before x (within h.operator at nil more i.context)) (λ x. omega arith) fits.marked);
    roomy = record {
      symbols_left = λ p. omega (arith, fits.roomy.symbols_left p, h.falls.0);
      past_rules = λ p. omega (arith, fits.roomy.past_rules p, h.falls.0);
      levels_left = omega (arith, fits.roomy.levels_left, h.falls.1);
    };
  }

  -- with its arguments
  pub nested_read : {b : List ℕ} {more spare : ℕ} {s : SideReader} {m : Lexer} → arity ≡ suc more → ReadsRow b r below i h.operator at nil more spare s m → ReadsTerm b before room i (record { bare = None; spare = spare }) s m
  nested_read {b} {more} {spare} {s} {m} e w =
      let ns = in_use before.nodes in
      let n : Node = record { symbol = Some (Operator h.operator); first = Some (suc (length ns)); next = None } in
      let one : in_use r.nodes ≡ ns ++ n ∷ [] = h.nodes ∙ ap (λ k. ns ++ record { symbol = Some (Operator h.operator); first = arguments_from (length ns) k; next = None } ∷ []) e in
      let longer : length (in_use r.nodes) ≡ suc (length ns) = ap length one ∙ length-append ns (n ∷ []) ∙ omega arith in
      record {
        term = apply h.operator (cons w.first w.others);
        goes_on = w.goes_on;
        nodes = w.nodes ∙ ap (λ k. in_use r.nodes ++ laid_row k (cons w.first w.others)) longer ∙ ap (λ ms. ms ++ laid_row (suc (length ns)) (cons w.first w.others)) one ∙ append_assoc ns (n ∷ []) (laid_row (suc (length ns)) (cons w.first w.others));
        keeps = record {
          signature = w.keeps.signature ∙ ap (λ (y : SideReader). y.signature) h.others;
          hand = w.keeps.hand ∙ ap (λ (y : SideReader). y.hand) h.others;
          marked = marked_as s.variables i.hand (λ x. occurrences_in x (cons w.first w.others) + occurrences_before x (within h.operator at nil more i.context)) (λ x. occurrences x (apply h.operator (cons w.first w.others)) + occurrences_before x i.context) (λ x. omega arith) w.keeps.marked;
          spare_left = omega (arith, w.keeps.spare_left, h.falls.0);
        };
      }
