-- Making a right side's row of arguments from its last piece to its first.
use Rattle.std.proofs.Common.{◌≡◌, ℕ, suc, ◌+◌, ◌-◌, ◌<◌, ◌≤◌, true, false, List, [], ◌∷◌, ◌++◌, length, get_or, Some, None, Option, sym, refl, ap, ◌∙◌, subst, append_assoc, append-nil, arith}
use Rattle.std.proofs.lemmas.List.{length-append, get_or-drop}
use Rattle.std.specs.List.{cons_option}
use Rattle.fixed_vec.specs.FixedVec.{items, Removed}
use Rattle.terms.specs.Term.{Term, variable, instrument, apply, Terms, cons, symbols}
use Rattle.terms.specs.Substitution.{fill, occurrences}
use Rattle.terms.specs.Signature.{Sig}
use Rattle.terms.specs.Rule.{Rule, RuleOf}
use Rattle.traversal.specs.Walks.{most_symbols}
use Rattle.rewriting.specs.Bindings.{Bindings, bound}
use Rattle.rewriting.proofs.Matching.{binds}
use Rattle.node_store.specs.Memory.{Memory}
use Rattle.node_store.specs.Placed.{Placed, Held, link}
use Rattle.node_store.specs.Work.{Work, size_all}
use Rattle.node_store.specs.Loading.{arguments_of}
use Rattle.compiled.specs.Symbols.{parts_of, parts_under, any, has_arguments, is_variable, has_variable, AllNarrow}
use Rattle.compiled.specs.declared.Piece.{Piece}
use Rattle.compiled.specs.declared.Plan.{Plan}
use Rattle.compiled.specs.Plans.{source_of, pieces_of, Planned}
use Rattle.matching.specs.Peeling.{Peeled}
use Rattle.matching.proofs.Peelings.{Beside, peeled_beside}
use Rattle.matching.proofs.Onwards.{links}
use Rattle.stepping.specs.Copying.{Taken}
use Rattle.stepping.specs.Growing.{Grown}
use Rattle.stepping.specs.Building.{MadeFrom, rows_in, BuiltRow}
use Rattle.stepping.proofs.Reading.{Read, read_all, pieces_all, pieces_left, pieces_term, as_many_under, term_occurs, read_has, narrow_under, read_narrow, LastRead, last_read, first_read}
use Rattle.matching.proofs.Copies.{filled_symbols}
use Rattle.matching.proofs.Needs.{parts_same, left_times}
use Rattle.matching.proofs.Sums.{times_has}
use Rattle.stepping.proofs.Keeping.{beside_binds, weights}
use Rattle.stepping.proofs.Forests.{GrownAll, no_row, row, Forest, forest_skips, taken_link, grown_any, has_any, longer}
use Rattle.stepping.proofs.Pieces.{put_piece}
use Rattle.stepping.proofs.Copies.{popped_link, no_items}

-- what is known of a rule, its plan, and the places and rows that its left side was found at
pub record Ready (p : Plan) (rule : Rule) (places : List ℕ) (kp : Placed) (kept : List Placed) (v : Bindings) : Type 0 where
  pub beside : Beside kp (parts_under rule.left) places kept v
  pub one : (x : ℕ) → binds x v ≤ 1
  pub inside : (x : ℕ) → 1 ≤ occurrences x rule.right → has_variable x (parts_under rule.left) ≡ true
  pub narrow : AllNarrow (arguments_of rule.right)
  pub pieces : items p.pieces ≡ pieces_all (parts_under rule.left) (rule.right ∷ []) (arguments_of rule.right ∷ [])
  pub many : length (items p.pieces) ≡ length (parts_of (arguments_of rule.right))

all_beside : (left : Term) (places : List ℕ) (kp : Placed) (kept : List Placed) (v : Bindings) → Peeled (arguments_of left) kp places kept v → Beside kp (parts_under left) places kept v
all_beside left places kp kept v e = subst (λ l. Beside kp l places kept v) (sym (parts_same left)) (peeled_beside e)

pub ready : (p : Plan) (sig : Sig) (rule : Rule) (places : List ℕ) (kp : Placed) (kept : List Placed) (v : Bindings) → RuleOf sig rule → Planned rule p → Peeled (arguments_of rule.left) kp places kept v → Ready p rule places kp kept v
ready p sig rule places kp kept v r d e = record {
  beside = all_beside rule.left places kp kept v e;
  one = λ x. let b = beside_binds x kp (parts_under rule.left) places kept v (all_beside rule.left places kp kept v e) in omega (arith, r.linear x, left_times sig rule r x);
  inside = λ x o. let b = r.bound x o in times_has x (parts_under rule.left) (omega (arith, left_times sig rule r x));
  narrow = narrow_under rule.right d.narrow;
  pieces = d.pieces ∙ pieces_term (parts_under rule.left) (rule.right ∷ []) rule.right ∙ sym (append-nil (pieces_of (parts_under rule.left) (rule.right ∷ []) (arguments_of rule.right)));
  many = ap length d.pieces ∙ as_many_under (parts_under rule.left) (rule.right ∷ []) rule.right ∙ ap length (parts_same rule.right);
}

-- the pieces from a number on are made, and their rows stand
pub record Building (m₀ : Memory) (p : Plan) (rule : Rule) (kept : List Placed) (v : Bindings) (h : Held) (i : ℕ) (m : Memory) (stack made : List ℕ) : Type 0 where
  pub earlier : List Term
  pub rows : List Terms
  pub read : Read (arguments_of rule.right) earlier rows
  pub many : length earlier ≡ i
  pub forest : Forest (bound v) m h (rows_in (rule.right ∷ earlier) v kept) rows stack made
  pub room : weights v earlier ≤ m.free + size_all (rows_in (rule.right ∷ earlier) v kept)
  pub short : length stack ≤ length made
  pub count : length made + i ≡ length (items p.pieces)
  pub long : length m.nodes ≡ length m₀.nodes

-- a right side needs one node more than its pieces, if it has pieces
pieces_weigh : (v : Bindings) (t : Term) (n : ℕ) → symbols (fill (bound v) t) ≤ suc n → weights v (parts_of (arguments_of t)) ≤ n
pieces_weigh v (variable y) n e = omega arith
pieces_weigh v (instrument k) n e = omega arith
pieces_weigh v (apply f ts) n e = omega (arith, filled_symbols (bound v) (apply f ts))

no_variable : (t : Term) → 0 < length (parts_of (arguments_of t)) → (x : ℕ) → is_variable x t ≡ false
no_variable (variable y) e x = absurd (let z : ⊥ = omega arith in z)
no_variable (instrument k) e x = refl
no_variable (apply f ts) e x = refl

-- one more piece is made, and there is room to list its place, and to put it on the stack
pub record NextBuilt (m₀ : Memory) (p : Plan) (rule : Rule) (kept : List Placed) (v : Bindings) (h : Held) (i : ℕ) (k : Memory) (stack made : List ℕ) (r : Option ℕ) : Type 0 where
  pub place : ℕ
  pub answer : r ≡ Some place
  pub room : length stack ≤ length made
  pub fits : length made < length (items p.pieces)
  pub building : Building m₀ p rule kept v h (i - 1) k (place ∷ stack) (place ∷ made)

pub pushed : (m₀ : Memory) (p : Plan) (rule : Rule) (kept : List Placed) (v : Bindings) (h : Held) (i : ℕ) (k : Memory) (stack made stack′ made′ : List ℕ) (r : Option ℕ) (q : ℕ) → r ≡ Some q → stack′ ≡ q ∷ stack → made′ ≡ q ∷ made → NextBuilt m₀ p rule kept v h i k stack made r → Building m₀ p rule kept v h (i - 1) k stack′ made′
pushed m₀ p rule kept v h i k stack made stack′ made′ r q e f g s =
    let y = sym s.answer ∙ e in
    let z : s.place ≡ q = cc in
    subst (λ l. Building m₀ p rule kept v h (i - 1) k l made′) (sym f) (subst (λ l. Building m₀ p rule kept v h (i - 1) k (q ∷ stack) l) (sym g) (subst (λ c. Building m₀ p rule kept v h (i - 1) k (c ∷ stack) (c ∷ made)) z s.building))

pub not_built : (m₀ : Memory) (p : Plan) (rule : Rule) (kept : List Placed) (v : Bindings) (h : Held) (i : ℕ) (k : Memory) (stack made : List ℕ) (r : Option ℕ) → r ≡ None → NextBuilt m₀ p rule kept v h i k stack made r → ⊥
not_built m₀ p rule kept v h i k stack made r e s = let y = sym s.answer ∙ e in let z : ⊥ = cc in z

module _ (p : Plan) (rule : Rule) (places : List ℕ) (kp : Placed) (kept : List Placed) (v : Bindings) (a : Ready p rule places kp kept v) (h : Held) (m₀ : Memory) (few : length m₀.nodes ≤ most_symbols) where
  pub build_starts : (n : ℕ) (g : Placed) (stack made : List ℕ) → n ≡ length (items p.pieces) → stack ≡ [] → made ≡ [] → Work m₀ h (rows_in (rule.right ∷ parts_under rule.right) v kept) g
      → symbols (fill (bound v) rule.right) ≤ suc (m₀.free + size_all (rows_in (rule.right ∷ parts_under rule.right) v kept)) → Building m₀ p rule kept v h n m₀ stack made
  build_starts n g stack made e s d w room =
      let few_parts = ap (λ l. size_all (rows_in (rule.right ∷ l) v kept)) (parts_same rule.right) in
      let no_made = ap length d in
      record {
        earlier = parts_of (arguments_of rule.right);
        rows = [];
        read = read_all (arguments_of rule.right);
        many = sym (e ∙ a.many);
        forest = record { rows = []; gone = g; grown = subst (GrownAll (bound v) [] []) (sym d) no_row; stacked = s; work = subst (λ l. Work m₀ h (rows_in (rule.right ∷ l) v kept) g) (parts_same rule.right) w };
        room = pieces_weigh v rule.right _ (omega arith);
        short = let z = ap length s in omega arith;
        count = omega arith;
        long = refl;
      }

  module _ (i : ℕ) (m k : Memory) (stack made s₁ s₂ : List ℕ) (first next : Option ℕ) (r : Option ℕ) (pieces : List Piece) (d : Piece) (some : 0 < i) (all : pieces ≡ items p.pieces)
      (t₁ : Taken (get_or pieces (i - 1) d).has_first stack s₁ first) (t₂ : Taken (get_or pieces (i - 1) d).has_next s₁ s₂ next) (piece : MadeFrom m (get_or pieces (i - 1) d).source first next places k r) (b : Building m₀ p rule kept v h i m stack made) where
    -- the piece before is made
    pub build_step : NextBuilt m₀ p rule kept v h i k s₂ made r
    build_step = from_last (last_read (arguments_of rule.right) b.earlier b.rows (i - 1) (let n = b.many in omega arith) b.read)
      where
        from_last : LastRead (arguments_of rule.right) b.earlier b.rows → NextBuilt m₀ p rule kept v h i k s₂ made r
        from_last l = go f.rows made refl f.grown f.stacked f.work
          where
            f : Forest (bound v) m h (rows_in (rule.right ∷ b.earlier) v kept) (arguments_of l.term ∷ l.later ∷ l.others) stack made
            f = forest_skips (bound v) m h (rows_in (rule.right ∷ b.earlier) v kept) stack made (arguments_of l.term ∷ l.later ∷ l.others) b.rows l.skips b.forest

            count : length l.earlier ≡ i - 1
            count = let n = b.many in let e = ap length l.is in omega (arith, length-append l.earlier (l.term ∷ []))

            piece_is : get_or pieces (i - 1) d ≡ record { source = source_of (parts_under rule.left) (rule.right ∷ l.earlier) l.term; has_first = has_arguments l.term; has_next = any l.later }
            piece_is =
                let whole = pieces_all (parts_under rule.left) (rule.right ∷ []) (arguments_of rule.right ∷ []) in
                let n : i - 1 ≡ length l.earlier + 0 = omega (arith, count) in
                (λ e. get_or ((all ∙ a.pieces) e) (n e) d) ∙ sym (get_or-drop (length l.earlier) whole 0 d) ∙ ap (λ ps. get_or ps 0 d) (pieces_left (arguments_of rule.right) (parts_under rule.left) (rule.right ∷ []) l.earlier (cons l.term l.later ∷ l.others) l.was)

            go : (rows : List Placed) (md : List ℕ) → made ≡ md → GrownAll (bound v) (arguments_of l.term ∷ l.later ∷ l.others) rows md → stack ≡ links rows → Work m h (rows ++ rows_in (rule.right ∷ b.earlier) v kept) f.gone → NextBuilt m₀ p rule kept v h i k s₂ made r
            go rows md e (row {q = q} {ps = ps} y (row {q = c} {ps = rs} {rs = more} {qs = forest} z others)) st wk =
                let t₃ = taken_link (get_or pieces (i - 1) d).has_first q (links (c ∷ forest)) stack s₁ first st (ap (λ (p : Piece). p.has_first) piece_is ∙ has_any l.term ∙ grown_any (bound v) (arguments_of l.term) q ps y) t₁ in
                let t₄ = taken_link (get_or pieces (i - 1) d).has_next c (links forest) s₁ s₂ next t₃.1 (ap (λ (p : Piece). p.has_next) piece_is ∙ grown_any (bound v) l.later c rs z) t₂ in
                let long = b.long in
                let count_made = b.count in
                let many = a.many in
                let short = b.short in
                let stacked = ap length st in
                let left = ap length t₄.1 in
                let less = longer (link q) (link c) (links forest) in
                let narrow = (read_narrow (arguments_of rule.right) l.earlier (cons l.term l.later ∷ l.others) a.narrow l.was).0.0 in
                let source = ap (λ (p : Piece). p.source) piece_is in
                let put = put_piece (parts_under rule.left) rule.right places kept v kp a.beside a.one (no_variable rule.right (omega arith)) h m k l.earlier l.later q c forest ps rs f.gone first next r (sym t₃.0) (sym t₄.0) (omega arith) l.term (record {
                  work = subst (λ bs. Work m h (q ∷ c ∷ (forest ++ rows_in (rule.right ∷ bs) v kept)) f.gone) l.is wk;
                  inside = λ y e. a.inside y (omega (arith, read_has y (arguments_of rule.right) b.earlier b.rows b.read (ap (has_variable y) l.is ∙ e), term_occurs y rule.right));
                  room = subst (λ bs. weights v bs ≤ m.free + size_all (rows_in (rule.right ∷ bs) v kept)) l.is b.room;
                }) y z narrow (subst (λ s. MadeFrom m s first next places k r) source piece) in
                record {
                  place = put.place;
                  answer = put.answer;
                  room = omega arith;
                  fits = omega arith;
                  building = record {
                    earlier = l.earlier;
                    rows = cons l.term l.later ∷ l.others;
                    read = l.was;
                    many = count;
                    forest = record {
                      rows = put.row ∷ forest;
                      gone = put.gone;
                      grown = subst (λ ps. GrownAll (bound v) (cons l.term l.later ∷ l.others) (put.row ∷ forest) (put.place ∷ ps)) (append_assoc ps rs more ∙ sym e) (row put.grown others);
                      stacked = (λ d. cons_option (sym put.begins d) (t₄.1 d));
                      work = put.work;
                    };
                    room = put.room;
                    short = omega arith;
                    count = omega arith;
                    long = put.long ∙ b.long;
                  };
                }

  pub build_ends : (i : ℕ) (m : Memory) (stack made after : List ℕ) (top : Option ℕ) → i ≤ 0 → Removed stack after top → Building m₀ p rule kept v h i m stack made → BuiltRow m₀ h rule.right kept v m made (Some top)
  build_ends i m stack made after top z popped b = go f.rows made refl f.grown f.stacked f.work
    where
      none_left : b.earlier ≡ []
      none_left = no_items b.earlier (let n = b.many in omega arith)

      f : Forest (bound v) m h (rows_in (rule.right ∷ b.earlier) v kept) (arguments_of rule.right ∷ []) stack made
      f = forest_skips (bound v) m h (rows_in (rule.right ∷ b.earlier) v kept) stack made (arguments_of rule.right ∷ []) b.rows (first_read (arguments_of rule.right) b.earlier b.rows (ap length none_left) b.read) b.forest

      go : (rows : List Placed) (md : List ℕ) → made ≡ md → GrownAll (bound v) (arguments_of rule.right ∷ []) rows md → stack ≡ links rows → Work m h (rows ++ rows_in (rule.right ∷ b.earlier) v kept) f.gone → BuiltRow m₀ h rule.right kept v m made (Some top)
      go rows md e (row {q = q} {ps = ps} g no_row) st wk = record {
        row = q;
        gone = f.gone;
        answer = ap Some (popped_link q stack after top st popped);
        grown = subst (Grown (bound v) (arguments_of rule.right) q) (sym (e ∙ append-nil ps)) g;
        work = subst (λ bs. Work m h (q ∷ rows_in (rule.right ∷ bs) v kept) f.gone) none_left wk;
        long = b.long;
      }
