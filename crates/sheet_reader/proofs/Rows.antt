-- Arguments, one after another.
use Rattle.std.proofs.Common.{◌≡◌, ℕ, ◌+◌, List, ◌++◌, length, Some, None, Ok, Err, Option, Result, sym, refl, ap, ◌∙◌, subst, append_assoc, append-nil, arith, length-append}
use Rattle.terms.specs.Term.{Term, apply, Terms, nil, cons, symbols, symbols_in}
use Rattle.terms.specs.Substitution.{occurrences, occurrences_in}
use Rattle.terms.specs.Nodes.{laid, laid_row, with_next}
use Rattle.terms.specs.declared.layout.Layout.{Layout}
use Rattle.terms.specs.Layout.{in_use}
use Rattle.terms.proofs.Laying.{length-laid, relaid}
use Rattle.signature.specs.Declaring.{sig_of}
use Rattle.lexer.specs.declared.token.Lexeme.{Lexeme}
use Rattle.lexer.specs.declared.token.Lexer.{Lexer}
use Rattle.lexer.specs.Lexing.{meaning}
use Rattle.reading.specs.declared.token.At.{At}
use Rattle.reading.specs.declared.fault.TextFault.{TextFault}
use Rattle.reading.specs.declared.fault.TextFault.TheVariants.{Unexpected}
use Rattle.reading.specs.declared.fault.SheetFault.TheVariants.{Text}
use Rattle.reading.specs.Reading.{Context, within, State, wants, has, and_then, on_has, chain}
use Rattle.sheet_reading.specs.Sides.{Hand as Side, on_left, on_right, in_text, occurrences_before}
use Rattle.sheet_reading.specs.Reading.{rule_end}
use Rattle.sheet_reader.specs.declared.side.Room.{Room}
use Rattle.sheet_reader.specs.declared.side.SideReader.{SideReader}
use Rattle.sheet_reader.specs.declared.side.Whole.{Whole}
use Rattle.sheet_reader.specs.Progress.{outcome, Reached, Meets, EndsEarly}
use Rattle.sheet_reader.specs.Sides.{Around, stand_in, inside, joined, Fits, ReadsTerm, ReadsRow}
use Rattle.sheet_reader.proofs.Progress.{taken, refused}
use Rattle.sheet_reader.proofs.Nested.{marked_as}

-- rows

symbols_then : (ts : Terms) (t : Term) → symbols_in (and_then ts t) ≡ symbols_in ts + symbols t
symbols_then nil t = omega arith
symbols_then (cons u us) t = omega (arith, symbols_then us t)

occurrences_then : (x : ℕ) (ts : Terms) (t : Term) → occurrences_in x (and_then ts t) ≡ occurrences_in x ts + occurrences x t
occurrences_then x nil t = omega arith
occurrences_then x (cons u us) t = omega (arith, occurrences_then x us t)

joined_one : (ts : Terms) (t : Term) → and_then ts t ≡ joined ts (cons t nil)
joined_one nil t = refl
joined_one (cons u us) t = ap (cons u) (joined_one us t)

joined_then : (ts : Terms) (t : Term) (us : Terms) → joined (and_then ts t) us ≡ joined ts (cons t us)
joined_then nil t us = refl
joined_then (cons v vs) t us = ap (cons v) (joined_then vs t us)

-- the text must not end between parentheses

wants_end : (i : Around) (d : Side) (f : ℕ) (a : At) (ts : Terms) (n : ℕ) (at : At) → rule_end i.operators i.values i.rules d (wants (within f a ts n i.context)) at ≡ Err (Text (Unexpected at))
wants_end i on_left f a ts n at = refl
wants_end i (on_right l) f a ts n at = refl

pub wants_early : (i : Around) (f : ℕ) (a : At) (ts : Terms) (n : ℕ) → EndsEarly (stand_in i (wants (within f a ts n i.context)))
wants_early i f a ts n at = wants_end i i.hand f a ts n at

has_end : (i : Around) (d : Side) (t : Term) (m : Option At) (k : Context) (at : At) → rule_end i.operators i.values i.rules d (has t m k) at ≡ Err (Text (Unexpected at))
has_end i on_left t m k at = refl
has_end i (on_right l) t m k at = refl

pub has_early : (i : Around) (t : Term) (m : Option At) (k : Context) → EndsEarly (stand_in i (has t m k))
has_early i t m k at = has_end i i.hand t m k at

-- behind an argument

module _ {b : List ℕ} (i : Around) {f : ℕ} {a : At} {ts : Terms} {n : ℕ} {t : Term} {m : Option At} {x : Lexeme} {l : Lexer} (q : Meets b (stand_in i (has t m (within f a ts n i.context))) x l) where
  pub behind_taken : (s : State) → on_has (meaning x.token) x.at t m (within f a ts n i.context) ≡ Ok s → Reached b (stand_in i s) l
  behind_taken s e = taken b (stand_in i (has t m (within f a ts n i.context))) (stand_in i s) x l q (ap (λ (o : Result State TextFault). chain (in_text o) (λ u. Ok (stand_in i u))) e)

  pub behind_refused : (g : TextFault) → on_has (meaning x.token) x.at t m (within f a ts n i.context) ≡ Err g → outcome b ≡ Err (Text g)
  behind_refused g e = refused b (stand_in i (has t m (within f a ts n i.context))) x l (Text g) q (ap (λ (o : Result State TextFault). chain (in_text o) (λ u. Ok (stand_in i u))) e)

-- the reader with other nodes
abbrev with_nodes : SideReader → Layout 32 → SideReader
with_nodes r linked = record { signature = r.signature; hand = r.hand; variables = r.variables; nodes = linked }

module _ {b : List ℕ} {before r : SideReader} {room : Room} (i : Around) {f : ℕ} {a : At} {ts : Terms} {n : ℕ} {whole : Whole} {l : Lexer} (w : ReadsTerm b before room (inside i f a ts n) whole r l) where
  -- the last one
  pub last_read : {m : Lexer} → Reached b (stand_in i (has (apply f (and_then ts w.term)) None i.context)) m → ReadsRow b before room i f a ts n whole.spare r m
  last_read {m} g = record {
    first = w.term;
    others = nil;
    goes_on = subst (λ us. Reached b (stand_in i (has (apply f us) None i.context)) m) (joined_one ts w.term) g;
    nodes = w.nodes ∙ ap (λ ns. in_use before.nodes ++ ns) (sym (append-nil (laid (length (in_use before.nodes)) None w.term)));
    keeps = record {
      signature = w.keeps.signature;
      hand = w.keeps.hand;
      marked = marked_as r.variables i.hand (λ x. occurrences x w.term + occurrences_before x (within f a ts n i.context)) (λ x. occurrences_in x (cons w.term nil) + occurrences_before x (within f a ts n i.context)) (λ x. omega arith) w.keeps.marked;
      spare_left = omega (arith, w.keeps.spare_left);
    };
  }

  module _ (linked : Layout 32) {p q : ℕ} (at_root : p ≡ length (in_use before.nodes)) (at_next : q ≡ length (in_use r.nodes)) (link : in_use linked ≡ with_next (in_use r.nodes) p q) where
    -- its root is linked to the next one
    argument_linked : in_use linked ≡ in_use before.nodes ++ laid (length (in_use before.nodes)) (Some (length (in_use before.nodes) + symbols w.term)) w.term
    argument_linked =
        let ns = in_use before.nodes in
        let far : q ≡ length ns + symbols w.term = at_next ∙ ap length w.nodes ∙ length-append ns (laid (length ns) None w.term) ∙ ap (λ k. length ns + k) (length-laid (length ns) None w.term) in
        link
        ∙ ap (λ ms. with_next ms p q) w.nodes
        ∙ ap (λ k. with_next (ns ++ laid (length ns) None w.term) k q) at_root
        ∙ relaid ns (length ns) q w.term refl
        ∙ ap (λ k. ns ++ laid (length ns) (Some k) w.term) far

    next_place : length (in_use linked) ≡ length (in_use before.nodes) + symbols w.term
    next_place =
        let ns = in_use before.nodes in
        ap length argument_linked ∙ length-append ns (laid (length ns) (Some (length ns + symbols w.term)) w.term) ∙ ap (λ k. length ns + k) (length-laid (length ns) (Some (length ns + symbols w.term)) w.term)

    -- where the next one may begin
    pub next_fits : (fewer : ℕ) → Fits before room (inside i f a ts n) → Fits (with_nodes r linked) (record { symbols = whole.spare; levels = room.levels }) (inside i f a (and_then ts w.term) fewer)
    next_fits fewer h = record {
      operators = ap (λ s. sig_of s.now) w.keeps.signature ∙ h.operators;
      hand = rw w.keeps.hand h.hand;
      nodes = next_place ∙ omega (arith, h.nodes, symbols_then ts w.term);
      marked = marked_as r.variables i.hand (λ x. occurrences x w.term + occurrences_before x (within f a ts n i.context)) (λ x. occurrences_before x (within f a (and_then ts w.term) fewer i.context)) (λ x. omega (arith, occurrences_then x ts w.term)) w.keeps.marked;
      roomy = record {
        symbols_left = λ p. omega (arith, h.roomy.symbols_left p, w.keeps.spare_left, symbols_then ts w.term);
        past_rules = λ p. omega (arith, h.roomy.past_rules p, w.keeps.spare_left);
        levels_left = h.roomy.levels_left;
      };
    }

    -- the others behind it
    pub more_read : {fewer spare : ℕ} {s : SideReader} {m : Lexer} → ReadsRow b (with_nodes r linked) (record { symbols = whole.spare; levels = room.levels }) i f a (and_then ts w.term) fewer spare s m → ReadsRow b before room i f a ts n spare s m
    more_read {fewer} {spare} {s} {m} v =
        let us = cons v.first v.others in
        let ns = in_use before.nodes in
        record {
          first = w.term;
          others = us;
          goes_on = subst (λ z. Reached b (stand_in i (has (apply f z) None i.context)) m) (joined_then ts w.term us) v.goes_on;
          nodes = v.nodes
              ∙ ap (λ k. in_use linked ++ laid_row k us) next_place
              ∙ ap (λ ms. ms ++ laid_row (length ns + symbols w.term) us) argument_linked
              ∙ append_assoc ns (laid (length ns) (Some (length ns + symbols w.term)) w.term) (laid_row (length ns + symbols w.term) us);
          keeps = record {
            signature = v.keeps.signature ∙ w.keeps.signature;
            hand = v.keeps.hand ∙ w.keeps.hand;
            marked = marked_as s.variables i.hand (λ x. occurrences_in x us + occurrences_before x (within f a (and_then ts w.term) fewer i.context)) (λ x. occurrences_in x (cons w.term us) + occurrences_before x (within f a ts n i.context)) (λ x. omega (arith, occurrences_then x ts w.term)) v.keeps.marked;
            spare_left = omega (arith, v.keeps.spare_left, w.keeps.spare_left);
          };
        }
