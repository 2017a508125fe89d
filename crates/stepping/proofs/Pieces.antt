-- Making one more piece of a right side.
use Rattle.std.proofs.Common.{◌≡◌, ℕ, ◌+◌, ◌≤◌, ◌==◌, Bool, true, false, cond, ◌||◌, List, [], ◌∷◌, ◌++◌, length, get_or, Some, None, Option, sym, refl, ap, ◌∙◌, subst, append_assoc, eq-eqb, arith}
use Rattle.std.proofs.lemmas.List.{length-set}
use Rattle.terms.specs.declared.symbol.Symbol.{Symbol}
use Rattle.terms.specs.declared.symbol.Symbol.TheVariants.{Instrument, Operator}
use Rattle.terms.specs.Term.{Term, variable, instrument, apply, Terms, nil, cons, symbols}
use Rattle.traversal.specs.Walks.{most_symbols}
use Rattle.rewriting.specs.Bindings.{Bindings, bound}
use Rattle.rewriting.proofs.Matching.{binds}
use Rattle.node_store.specs.Memory.{Memory, linked}
use Rattle.node_store.specs.Placed.{Placed, none, at, link, IsTerm, Held}
use Rattle.node_store.specs.Work.{Work, Joins, Joined, size_all}
use Rattle.node_store.specs.Loading.{arguments_of}
use Rattle.node_store.proofs.Rows.{without_none, swapped, to_front, from_front, row_linked}
use Rattle.node_store.proofs.Standing.{term_size}
use Rattle.node_store.proofs.Tracing.{small}
use Rattle.compiled.specs.Symbols.{is_variable, has_variable, home, Narrow}
use Rattle.compiled.specs.declared.Source.TheVariants.{Moved, Copied}
use Rattle.compiled.specs.Plans.{source_of}
use Rattle.matching.proofs.Peelings.{Beside}
use Rattle.stepping.specs.Growing.{Grown, nothing, part, leaf, node}
use Rattle.stepping.specs.Copying.{Copies}
use Rattle.stepping.specs.Building.{MadeFrom, rows_in}
use Rattle.stepping.proofs.Forests.{grown_nil}
use Rattle.stepping.specs.Keeping.{rows_for}
use Rattle.stepping.proofs.Keeping.{has_snoc, right_or, weights-append, size_middle, Found, find_row, found_bound, row_among, weights, rows_weigh, asked_again, asked_more}

grow_leaf : (v : Bindings) (n q : ℕ) (a c : Placed) (us : Terms) (ps rs : List ℕ) → Grown (bound v) nil a ps → Grown (bound v) us c rs → Grown (bound v) (cons (instrument n) us) (at q (Some (Instrument n)) a c) (q ∷ (ps ++ rs))
grow_leaf v n q a c us ps rs nothing g = leaf g

grow_part : (v : Bindings) (x q : ℕ) (s : Option Symbol) (ks a c : Placed) (us : Terms) (ps rs : List ℕ) → IsTerm s ks (bound v x) → Grown (bound v) nil a ps → Grown (bound v) us c rs → Grown (bound v) (cons (variable x) us) (at q s ks c) (q ∷ (ps ++ rs))
grow_part v x q s ks a c us ps rs i nothing g = part i g

module _ (l : List Term) (right : Term) (places : List ℕ) (kept : List Placed) (v : Bindings) (w : Placed) (beside : Beside w l places kept v) (one : (x : ℕ) → binds x v ≤ 1) (bare : (x : ℕ) → is_variable x right ≡ false) (h : Held) where
  -- the row of a part and its later siblings stands, and the pieces before it can still be made
  pub record Put (m : Memory) (k : Memory) (earlier : List Term) (t : Term) (us : Terms) (ps : List ℕ) (forest : List Placed) (r : Option ℕ) : Type 0 where
    pub place : ℕ
    pub row : Placed
    pub gone : Placed
    pub answer : r ≡ Some place
    pub begins : link row ≡ Some place
    pub grown : Grown (bound v) (cons t us) row (place ∷ ps)
    pub work : Work k h (row ∷ (forest ++ rows_in (right ∷ earlier) v kept)) gone
    pub room : weights v earlier ≤ k.free + size_all (rows_in (right ∷ earlier) v kept)
    pub long : length k.nodes ≡ length m.nodes

  -- a right side that is no variable asks for no row itself
  asks : (bs : List Term) → rows_in (right ∷ bs) v kept ≡ rows_in bs v kept
  asks bs = λ i. rows_for (λ x. ap (λ b. b || has_variable x bs) (bare x) i) v kept

  -- what the rows are if one more part asks for its own
  asks_more : (bs : List Term) (t : Term) → rows_in (right ∷ (bs ++ t ∷ [])) v kept ≡ rows_for (λ y. is_variable y t || has_variable y bs) v kept
  asks_more bs t = asks (bs ++ t ∷ []) ∙ (λ i. rows_for (λ y. has_snoc y bs t i) v kept)

  module _ (m k : Memory) (earlier : List Term) (us : Terms) (a c : Placed) (forest : List Placed) (ps rs : List ℕ) (g : Placed) (first next : Option ℕ) (r : Option ℕ) (b : link a ≡ first) (d : link c ≡ next) (few : length m.nodes ≤ most_symbols) where
    -- so far, before the piece of a part is made
    pub record Pending (t : Term) : Type 0 where
      pub work : Work m h (a ∷ c ∷ (forest ++ rows_in (right ∷ (earlier ++ t ∷ [])) v kept)) g
      pub inside : (x : ℕ) → has_variable x (earlier ++ t ∷ []) ≡ true → has_variable x l ≡ true
      pub room : weights v (earlier ++ t ∷ []) ≤ m.free + size_all (rows_in (right ∷ (earlier ++ t ∷ [])) v kept)

    -- there are as many free nodes as the part needs, if it asks for no row
    enough : (t : Term) → Pending t → rows_in (right ∷ (earlier ++ t ∷ [])) v kept ≡ rows_in (right ∷ earlier) v kept → weights v (t ∷ []) ≤ m.free
    enough t p e =
        let x = ap size_all (e ∙ asks earlier) in
        let y = rows_weigh v kept l places w beside one earlier (λ x q. p.inside x (has_snoc x earlier t ∙ ap (λ b. is_variable x t || b) q ∙ right_or (is_variable x t))) in
        let z = weights-append v earlier (t ∷ []) in
        omega (arith, p.room)

    -- a new node
    put_made : (t : Term) (y : Symbol) → Pending t → Joins m y first next k r → ((x : ℕ) → is_variable x t ≡ false) → weights v (t ∷ []) ≡ 1 → ((q : ℕ) → Grown (bound v) (cons t us) (at q (Some y) a c) (q ∷ (ps ++ rs))) → Put m k earlier t us (ps ++ rs) forest r
    put_made t y p joins plain one_node grow = go r (joins h a c (forest ++ before) g p.work b d (let n = small (length m.nodes) few in omega arith))
      where
        before : List Placed
        before = rows_in (right ∷ (earlier ++ t ∷ [])) v kept

        e : before ≡ rows_in (right ∷ earlier) v kept
        e = asks_more earlier t ∙ (λ i. rows_for (λ y. ap (λ b. b || has_variable y earlier) (plain y) i) v kept) ∙ sym (asks earlier)

        go : (o : Option ℕ) → Joined m h (Some y) a c (forest ++ before) k o → Put m k earlier t us (ps ++ rs) forest o
        go None j = absurd (let z = enough t p e in let x : ⊥ = omega arith in x)
        go (Some q) j =
            let f = j.2 in
            let z = weights-append v earlier (t ∷ []) in
            let u = ap size_all e in
            record {
              place = q;
              row = at q (Some y) a c;
              gone = j.0;
              answer = refl;
              begins = refl;
              grown = grow q;
              work = subst (λ rows. Work k h (at q (Some y) a c ∷ (forest ++ rows)) j.0) e j.1;
              room = omega (arith, p.room);
              long = j.3;
            }

    module _ (x : ℕ) (p : Pending (variable x)) (o : Found x l places kept v) (bare_row : Grown (bound v) nil a ps) (grown : Grown (bound v) us c rs) where
      abbrev row : Placed
      row = at o.place o.symbol o.args none

      -- the row of the variable, with that of the later siblings, before all others
      row_first : (front back : List Placed) → rows_in (right ∷ (earlier ++ variable x ∷ [])) v kept ≡ front ++ row ∷ back → Work m h (row ∷ c ∷ ((forest ++ front) ++ back)) g
      row_first front back e =
          let n = grown_nil (bound v) a ps bare_row in
          let u : Work m h (none ∷ c ∷ (forest ++ (front ++ row ∷ back))) g = subst (λ z. Work m h (z ∷ c ∷ (forest ++ (front ++ row ∷ back))) g) n.0 (subst (λ rows. Work m h (a ∷ c ∷ (forest ++ rows)) g) e p.work) in
          let y = without_none m h (c ∷ (forest ++ (front ++ row ∷ back))) g u in
          to_front m h (c ∷ (forest ++ front)) back row g (subst (λ rows. Work m h (c ∷ rows) g) (sym (append_assoc forest front (row ∷ back))) y)

      -- a copy
      put_copied : Copies m (get_or places (home x l) 0) next k r → has_variable x earlier ≡ true → Put m k earlier (variable x) us (ps ++ rs) forest r
      put_copied copies asked =
          let f = λ (y : ℕ). has_variable y earlier in
          let n = row_among x l places kept v o f (λ y. cond (x == y) false (f y)) (one x) asked (ap (λ z. cond z false (f x)) (eq-eqb x x refl)) (λ y z. sym (ap (λ u. cond u false (f y)) z)) in
          let again : rows_in (right ∷ (earlier ++ variable x ∷ [])) v kept ≡ rows_in earlier v kept = asks_more earlier (variable x) ∙ (λ i. rows_for (λ y. asked_again x f asked y i) v kept) in
          let t = found_bound x l places kept v o in
          let few_nodes = ap symbols t in
          let z = weights-append v earlier (variable x ∷ []) in
          let y = enough (variable x) p (again ∙ sym (asks earlier)) in
          let made = subst (λ q. Copies m q next k r) o.stands copies h o.symbol o.args o.term c ((forest ++ n.front) ++ n.back) g (swapped m h row c ((forest ++ n.front) ++ n.back) g (row_first n.front n.back (again ∙ n.with))) d o.is (omega arith) few in
          let new = at made.place o.symbol made.row c in
          let rows = from_front k h (new ∷ (forest ++ n.front)) n.back row made.gone (swapped k h new row ((forest ++ n.front) ++ n.back) made.gone made.work) in
          let same = append_assoc forest n.front (row ∷ n.back) ∙ ap (λ rows. forest ++ rows) (sym n.with ∙ sym (asks earlier)) in
          let u = ap size_all (again ∙ sym (asks earlier)) in
          record {
            place = made.place;
            row = new;
            gone = made.gone;
            answer = made.answer;
            begins = refl {a = Some made.place};
            grown = grow_part v x made.place o.symbol made.row a c us ps rs (subst (IsTerm o.symbol made.row) (sym t) made.is) bare_row grown;
            work = subst (λ rows. Work k h (new ∷ rows) made.gone) same rows;
            room = omega (arith, p.room, made.free);
            long = made.long;
          }

      -- the part itself
      put_moved : k ≡ linked m (get_or places (home x l) 0) next → r ≡ Some (get_or places (home x l) 0) → has_variable x earlier ≡ false → Put m k earlier (variable x) us (ps ++ rs) forest r
      put_moved e answer asked =
          let f = λ (y : ℕ). has_variable y earlier in
          let n = row_among x l places kept v o (λ y. (y == x) || f y) f (one x) (ap (λ b. b || f x) (eq-eqb x x refl)) asked (asked_more x f) in
          let with = asks_more earlier (variable x) ∙ n.with in
          let without = asks earlier ∙ n.without in
          let t = found_bound x l places kept v o in
          let few_nodes = ap symbols t in
          let term = term_size o.symbol o.args o.term o.is in
          let z = weights-append v earlier (variable x ∷ []) in
          let is : linked m o.place next ≡ k = sym (e ∙ ap (λ q. linked m q next) o.stands) in
          let free = ap (λ (y : Memory). y.free) is in
          let long : length k.nodes ≡ length m.nodes = sym (ap (λ (y : Memory). length y.nodes) is) ∙ length-set m.nodes o.place _ in
          let new = at o.place o.symbol o.args c in
          let rows : Work k h (new ∷ ((forest ++ n.front) ++ n.back)) g = subst (λ y. Work y h (new ∷ ((forest ++ n.front) ++ n.back)) g) is (row_linked m h o.place o.symbol o.args c ((forest ++ n.front) ++ n.back) g next d (row_first n.front n.back with)) in
          let same = append_assoc forest n.front n.back ∙ ap (λ rows. forest ++ rows) (sym without) in
          let u = ap size_all with in
          let y = ap size_all without in
          let q = size_middle n.front n.back row in
          record {
            place = o.place;
            row = new;
            gone = g;
            answer = answer ∙ ap Some o.stands;
            begins = refl {a = Some o.place};
            grown = grow_part v x o.place o.symbol o.args a c us ps rs (subst (IsTerm o.symbol o.args) (sym t) o.is) bare_row grown;
            work = subst (λ rows. Work k h (new ∷ rows) g) same rows;
            room = omega (arith, p.room);
            long = long;
          }

    -- any piece
    pub put_piece : (t : Term) → Pending t → Grown (bound v) (arguments_of t) a ps → Grown (bound v) us c rs → Narrow t → MadeFrom m (source_of l (right ∷ earlier) t) first next places k r → Put m k earlier t us (ps ++ rs) forest r
    put_piece (instrument n) p x y narrow made = put_made (instrument n) (Instrument n) p made (λ z. refl) refl (λ q. grow_leaf v n q a c us ps rs x y)
    put_piece (apply f fs) p x y narrow made = put_made (apply f fs) (Operator f) p made (λ z. refl) refl (λ q. node narrow.0 x y)
    put_piece (variable z) p x y narrow made = go (has_variable z (right ∷ earlier)) (sym (ap (λ b. b || has_variable z earlier) (bare z))) made
      where
        o : Found z l places kept v
        o = find_row z w l places kept v beside (p.inside z (has_snoc z earlier (variable z) ∙ ap (λ b. b || has_variable z earlier) (eq-eqb z z refl)))

        go : (b : Bool) → has_variable z earlier ≡ b → MadeFrom m (cond b (Copied (home z l)) (Moved (home z l))) first next places k r → Put m k earlier (variable z) us (ps ++ rs) forest r
        go true e made = put_copied z p o x y made e
        go false e made = put_moved z p o x y made.0 made.1 e
