-- A whole step: what stands before a right side is built, and what is done afterwards.
use Rattle.std.proofs.Common.{◌≡◌, ℕ, suc, ◌+◌, ◌≤◌, ◌==◌, cond, Bool, true, false, ◌||◌, List, [], ◌∷◌, ◌++◌, map, length, get_or, Some, None, Option, sym, refl, ap, ◌∙◌, subst, append-nil, eq-eqb, arith}
use Rattle.std.proofs.lemmas.List.{length-set}
use Rattle.fixed_vec.specs.FixedVec.{items}
use Rattle.terms.specs.declared.node.Node.{Node}
use Rattle.terms.specs.declared.symbol.Symbol.{Symbol}
use Rattle.terms.specs.declared.symbol.Symbol.TheVariants.{Instrument, Operator}
use Rattle.terms.specs.Term.{Term, variable, instrument, apply, nil, symbols}
use Rattle.terms.specs.Nodes.{vacant}
use Rattle.terms.specs.Position.{put_at}
use Rattle.terms.specs.Substitution.{fill, occurrences}
use Rattle.terms.specs.Signature.{Sig}
use Rattle.terms.specs.Rule.{Rule, RuleOf}
use Rattle.traversal.specs.Walks.{most_symbols}
use Rattle.rewriting.specs.Bindings.{Bindings, bound}
use Rattle.rewriting.proofs.Filling.{count_self}
use Rattle.node_store.specs.Memory.{Memory, freed_at, laid_over}
use Rattle.node_store.specs.Placed.{Placed, none, at, link, size, IsTerm, Held, also}
use Rattle.node_store.specs.Work.{Work, size_all}
use Rattle.node_store.specs.Grafting.{graft, Sub}
use Rattle.node_store.specs.Loading.{arguments_of}
use Rattle.node_store.proofs.Rows.{with_none, without_none, swapped, node_freed}
use Rattle.node_store.proofs.Counting.{all_nodes}
use Rattle.node_store.proofs.Grafts.{graft-graft, sub_graft}
use Rattle.node_store.proofs.Regrafting.{regrafted, held_node, held_once}
use Rattle.node_store.proofs.Parts.{part_of}
use Rattle.compiled.specs.Symbols.{parts_under, is_variable, has_variable, home, Narrow}
use Rattle.compiled.specs.declared.Piece.{Piece}
use Rattle.compiled.specs.declared.Plan.{Plan}
use Rattle.compiled.specs.declared.Source.TheVariants.{Made, Moved}
use Rattle.compiled.specs.Plans.{checks_of, checks_under, source_of, Planned}
use Rattle.matching.specs.Peeling.{Peeled, size_at}
use Rattle.matching.specs.Room.{dropped_sizes}
use Rattle.stepping.specs.Growing.{GrownUnder}
use Rattle.stepping.specs.Keeping.{rows_for}
use Rattle.stepping.specs.Parting.{parted, without, moved_to, finished}
use Rattle.stepping.specs.Building.{rows_in, BuiltRow, Builds}
use Rattle.stepping.specs.Stepping.{Stepped}
use Rattle.matching.proofs.Matches.{checks_same}
use Rattle.matching.proofs.Pairings.{all_checks}
use Rattle.matching.proofs.Rooms.{Standing, standing, found_size}
use Rattle.stepping.proofs.Parting.{Loose, taken_apart}
use Rattle.stepping.proofs.Keeping.{find_row, found_bound, row_among, rows_for-none, asked_more}
use Rattle.stepping.proofs.Dropping.{rows_given}
use Rattle.stepping.proofs.Forests.{grown_nil, grown_terms, fill_many}
use Rattle.stepping.proofs.Copies.{few_nodes}
use Rattle.stepping.proofs.Buildings.{ready}

-- without arguments a symbol is a term too
bare_term : (s : Option Symbol) (ks : Placed) (t : Term) → IsTerm s ks t → (u : Term) × IsTerm s none u
bare_term s ks (variable x) is = (variable x, (is.0, refl))
bare_term s ks (instrument n) is = (instrument n, (is.0, refl))
bare_term s ks (apply f ts) is = (apply f nil, (is.0, omega arith, tt))

-- a root with something grafted below it, or at it
grafted_root : (p r : ℕ) (s t : Option Symbol) (a js : Placed) → (t′ : Option Symbol) × (js′ : Placed) × (at r t′ js′ none ≡ graft p s a (at r t js none))
grafted_root p r s t a js = go (p == r)
  where
    go : (b : Bool) → (t′ : Option Symbol) × (js′ : Placed) × (at r t′ js′ none ≡ cond b (at r s a none) (at r t (graft p s a js) none))
    go true = (s, a, refl)
    go false = (t, graft p s a js, refl)

-- the arguments of a part of a held term are a row of their own
pub record Cut (m : Memory) (h : Held) (root : ℕ) (s : Option Symbol) (ks : Placed) (place : ℕ) (sp : Option Symbol) (kp : Placed) (k : Memory) : Type 0 where
  pub symbol : Option Symbol
  pub row : Placed
  pub term : Term
  pub is : at root symbol row none ≡ graft place sp none (at root s ks none)
  pub gone : Placed
  pub work : Work k (also root symbol row term h) (kp ∷ []) gone

pub cut_off : (m k : Memory) (h : Held) (root : ℕ) (s : Option Symbol) (ks : Placed) (t : Term) (g : Placed) (place : ℕ) (sp : Option Symbol) (kp : Placed) (x : Option Symbol) → Work m (also root s ks t h) [] g → Sub place sp kp (at root s ks none) → x ≡ (get_or m.nodes place vacant).symbol → k ≡ laid_over m place x None → Cut m h root s ks place sp kp k
cut_off m k h root s ks t g place sp kp x w sub e f =
    let part = part_of t sub (held_once m root s ks t h [] g w place) w.terms.3 in
    let bare = bare_term sp kp part.part part.is in
    let node = held_node m.nodes t h sub w.terms in
    let z : x ≡ sp = e ∙ ap (λ (n : Node). n.symbol) node.1 in
    let r = grafted_root place root sp s none ks in
    let u = put_at t part.position bare.0 in
    let is = part.put sp none bare.0 r.0 r.1 bare.1 r.2 in
    record {
      symbol = r.0;
      row = r.1;
      term = u;
      is = r.2;
      gone = g;
      work = subst (λ y. Work y (also root r.0 r.1 u h) (kp ∷ []) g) (sym (f ∙ ap (λ y. laid_over m place y None) z))
          (regrafted m h root s ks t none [] g place sp kp sp None r.0 r.1 u (with_none m (also root s ks t h) [] g w) sub refl r.2 is);
    }

no_append : (xs ys : List Placed) → xs ++ ys ≡ [] → (xs ≡ []) × (ys ≡ [])
no_append [] ys e = (refl, e)
no_append (x ∷ xs) ys e = absurd (let n = ap length e in let z : ⊥ = omega arith in z)

checks_under_are : (t : Term) → checks_under t ≡ all_checks (arguments_of t ∷ [])
checks_under_are t = checks_same t ∙ sym (append-nil (checks_of (arguments_of t)))

-- what is ready when the right side is to be built
pub record Prepared (m : Memory) (h : Held) (root : ℕ) (s : Option Symbol) (ks : Placed) (place : ℕ) (sp : Option Symbol) (kept : List Placed) (v : Bindings) (right : Term) (k : Memory) : Type 0 where
  pub symbol : Option Symbol
  pub row : Placed
  pub term : Term
  pub is : at root symbol row none ≡ graft place sp none (at root s ks none)
  pub gone : Placed
  pub work : Work k (also root symbol row term h) (rows_in (right ∷ parts_under right) v kept) gone
  pub room : symbols (fill (bound v) right) ≤ suc (k.free + size_all (rows_in (right ∷ parts_under right) v kept))
  pub long : length k.nodes ≡ length m.nodes

module _ (p : Plan) (sig : Sig) (rule : Rule) (places : List ℕ) (kp : Placed) (kept : List Placed) (v : Bindings) (of : RuleOf sig rule) (planned : Planned rule p) (peeled : Peeled (arguments_of rule.left) kp places kept v)
    (m : Memory) (h : Held) (root : ℕ) (s : Option Symbol) (ks : Placed) (t : Term) (g : Placed) (work : Work m (also root s ks t h) [] g) (few : length m.nodes ≤ most_symbols) (place : ℕ) (sp : Option Symbol) (sub : Sub place sp kp (at root s ks none)) where
  pub prepared : (m₁ m₂ m₃ : Memory) (x : Option Symbol) (sizes : List ℕ) → sizes ≡ dropped_sizes p places kept → symbols (fill (bound v) rule.right) ≤ m.free + suc (size kp)
      → x ≡ (get_or m.nodes place vacant).symbol → m₁ ≡ laid_over m place x None → m₂ ≡ parted m₁ (items p.checks) places → m₃ ≡ without m₂ (items p.dropped) sizes places → Prepared m h root s ks place sp kept v rule.right m₃
  prepared m₁ m₂ m₃ x sizes sized room e e₁ e₂ e₃ =
      let ready = ready p sig rule places kp kept v of planned peeled in
      let c = cut_off m m₁ h root s ks t g place sp kp x work sub e e₁ in
      let held = also root c.symbol c.row c.term h in
      let free : m₁.free ≡ m.free = ap (λ (y : Memory). y.free) e₁ in
      let long₁ : length m₁.nodes ≡ length m.nodes = ap (λ (y : Memory). length y.nodes) e₁ ∙ length-set m.nodes place _ in
      let few₀ = few_nodes m few in
      let a = taken_apart m₁ held (arguments_of rule.left ∷ []) (kp ∷ []) places kept v [] c.gone peeled (omega arith) c.work in
      let apart : Loose m₁ held kept m₂ = subst (λ l. Loose m₁ held l m₂) (append-nil kept) (subst (λ y. Loose m₁ held (kept ++ []) y) (sym (e₂ ∙ ap (λ cs. parted m₁ cs places) (planned.checks ∙ checks_under_are rule.left))) a) in
      let long₂ = apart.long in
      let w₂ = subst (λ l. Work m₂ held l apart.gone) (sym (append-nil kept)) apart.work in
      let b = rows_given held kp (rule.right ∷ parts_under rule.right) places kept (λ xs ys i s ks e. ap (λ l. size_at l i) e ∙ found_size m₁.nodes kp c.work.rows.0 xs ys i s ks (subst (Standing kp) e (standing ready.beside))) (parts_under rule.left) places kept v 0 [] [] [] apart.gone m₂ ready.beside refl refl refl (omega arith) w₂ in
      let parts = rule.right ∷ parts_under rule.right in
      let sizes_of = λ (k : ℕ). size_at kept (get_or places k 0) in
      let given : Loose m₂ held (rows_in parts v kept) m₃ = subst (λ l. Loose m₂ held l m₃) (append-nil (rows_in parts v kept)) (subst (λ y. Loose m₂ held (rows_in parts v kept ++ []) y) (sym (e₃ ∙ (λ d. without m₂ (planned.dropped d) ((sized ∙ ap (map sizes_of) planned.dropped) d) places))) b) in
      let long₃ = given.long in
      let nodes₁ = all_nodes m₁ held (kp ∷ []) c.gone c.work in
      let nodes₃ = all_nodes m₃ held (rows_in parts v kept) given.gone given.work in
      record { symbol = c.symbol; row = c.row; term = c.term; is = c.is; gone = given.gone; work = given.work; room = omega arith; long = long₃ ∙ long₂ ∙ long₁ }

  -- the right side is built on that
  pub row_built : (m₃ m₄ : Memory) (made : List ℕ) (r : Option (Option ℕ)) (b : Prepared m h root s ks place sp kept v rule.right m₃) → Builds m₃ p places m₄ made r → BuiltRow m₃ (also root b.symbol b.row b.term h) rule.right kept v m₄ made r
  row_built m₃ m₄ made r b builds = builds sig rule of planned kp kept v peeled (also root b.symbol b.row b.term h) b.gone b.work (omega (arith, b.long)) b.room

  pub not_built : (m₃ m₄ : Memory) (made : List ℕ) (b : Prepared m h root s ks place sp kept v rule.right m₃) → Builds m₃ p places m₄ made None → ⊥
  not_built m₃ m₄ made b builds = let z = (row_built m₃ m₄ made None b builds).answer in let y : ⊥ = cc in y

  module _ (m₃ m₄ m₅ : Memory) (made : List ℕ) (l : Option ℕ) (b : Prepared m h root s ks place sp kept v rule.right m₃) (after : m₅ ≡ finished m₄ p.root.source place places l) where
    -- a symbol and its row are put at the place
    put_there : (k : Memory) (y : Option Symbol) (row gone : Placed) (o : Option ℕ) → Work k (also root b.symbol b.row b.term h) (row ∷ []) gone → link row ≡ o → (s₂ : Option Symbol) (ks₂ : Placed) (u : Term) → at root s₂ ks₂ none ≡ graft place y row (at root s ks none) → IsTerm s₂ ks₂ u → Work (laid_over k place y o) (also root s₂ ks₂ u h) [] gone
    put_there k y row gone o w e s₂ ks₂ u f is =
        let once = held_once m root s ks t h [] g work place in
        let there = subst (Sub place sp none) (sym b.is) (sub_graft place sp none sub once) in
        let z = regrafted k h root b.symbol b.row b.term row [] gone place sp none y o s₂ ks₂ u w there e (f ∙ sym (graft-graft place y row sp none (at root s ks none)) ∙ ap (graft place y row) (sym b.is)) is in
        without_none (laid_over k place y o) (also root s₂ ks₂ u h) [] gone z

    -- a right side that is no variable
    put_symbol : (right : Term) (built : BuiltRow m₃ (also root b.symbol b.row b.term h) right kept v m₄ made (Some l)) (y : Symbol) → p.root.source ≡ Made y → ((x : ℕ) → is_variable x right ≡ false) → IsTerm (Some y) built.row (fill (bound v) right) → GrownUnder (bound v) right built.row made → Stepped m h root s ks place right v m₅ made
    put_symbol right built y source bare is grown =
        let now = after ∙ ap (λ x. finished m₄ x place places l) source in
        let no_rows : rows_in (right ∷ []) v kept ≡ [] = (λ i. rows_for (λ x. ap (λ c. c || false) (bare x) i) v kept) ∙ rows_for-none v kept in
        let w = subst (λ rows. Work m₄ (also root b.symbol b.row b.term h) (built.row ∷ rows) built.gone) no_rows built.work in
        let long : length m₅.nodes ≡ length m₄.nodes = ap (λ (k : Memory). length k.nodes) now ∙ length-set m₄.nodes place _ in
        let first : link built.row ≡ l = let a = built.answer in cc in
        record {
          symbol = Some y;
          row = built.row;
          gone = built.gone;
          is = is;
          work = λ s₂ ks₂ u e i. subst (λ k. Work k (also root s₂ ks₂ u h) [] built.gone) (sym now) (put_there m₄ (Some y) built.row built.gone l w first s₂ ks₂ u e i);
          grown = grown;
          long = long ∙ built.long ∙ b.long;
        }

    -- a right side that is a variable
    put_part : (x : ℕ) (built : BuiltRow m₃ (also root b.symbol b.row b.term h) (variable x) kept v m₄ made (Some l)) → has_variable x (parts_under rule.left) ≡ true → p.root.source ≡ Moved (home x (parts_under rule.left)) → Stepped m h root s ks place (variable x) v m₅ made
    put_part x built has source =
        let held = also root b.symbol b.row b.term h in
        let ready = ready p sig rule places kp kept v of planned peeled in
        let o = find_row x kp (parts_under rule.left) places kept v ready.beside has in
        let n = row_among x (parts_under rule.left) places kept v o (λ y. (y == x) || false) (λ y. false) (ready.one x) (ap (λ c. c || false) (eq-eqb x x refl)) refl (asked_more x (λ y. false)) in
        let none_else = no_append n.front n.back (sym n.without ∙ rows_for-none v kept) in
        let part = at o.place o.symbol o.args none in
        let only : rows_in (variable x ∷ []) v kept ≡ part ∷ [] = n.with ∙ (λ i. none_else.0 i ++ part ∷ none_else.1 i) in
        let bare = grown_nil (bound v) built.row made built.grown in
        let w₁ : Work m₄ held (none ∷ part ∷ []) built.gone = subst (λ rows. Work m₄ held (none ∷ rows) built.gone) only (subst (λ row. Work m₄ held (row ∷ rows_in (variable x ∷ []) v kept) built.gone) bare.0 built.work) in
        let w₂ = without_none m₄ held (part ∷ []) built.gone w₁ in
        let node = w₂.rows.0.1 in
        let few₄ : length m₄.nodes ≤ 65536 = omega (arith, few_nodes m few, built.long, b.long) in
        let gone = at o.place None none built.gone in
        let w₃ = node_freed m₄ held o.place o.symbol o.args none [] built.gone few₄ w₂ in
        let w₄ = without_none (freed_at m₄ o.place) held (o.args ∷ []) gone (swapped (freed_at m₄ o.place) held o.args none [] gone w₃) in
        let now : m₅ ≡ laid_over (freed_at m₄ o.place) place o.symbol (link o.args) = after ∙ ap (λ x. finished m₄ x place places l) source ∙ ap (λ q. moved_to m₄ q place) o.stands ∙ (λ i. laid_over (freed_at m₄ o.place) place (node i).symbol (node i).first) in
        let long : length m₅.nodes ≡ length m₄.nodes = ap (λ (k : Memory). length k.nodes) now ∙ length-set (freed_at m₄ o.place).nodes place _ ∙ length-set m₄.nodes o.place _ in
        record {
          symbol = o.symbol;
          row = o.args;
          gone = gone;
          is = subst (IsTerm o.symbol o.args) (sym (found_bound x (parts_under rule.left) places kept v o)) o.is;
          work = λ s₂ ks₂ u e i. subst (λ k. Work k (also root s₂ ks₂ u h) [] gone) (sym now) (put_there (freed_at m₄ o.place) o.symbol o.args gone (link o.args) w₄ refl s₂ ks₂ u e i);
          grown = tt;
          long = long ∙ built.long ∙ b.long;
        }

    put_right : (right : Term) → Narrow right → p.root.source ≡ source_of (parts_under rule.left) [] right → ((x : ℕ) → 1 ≤ occurrences x right → has_variable x (parts_under rule.left) ≡ true) → BuiltRow m₃ (also root b.symbol b.row b.term h) right kept v m₄ made (Some l) → Stepped m h root s ks place right v m₅ made
    put_right (variable x) narrow source inside built = put_part x built (inside x (let o = count_self x in omega arith)) source
    put_right (instrument n) narrow source inside built = put_symbol (instrument n) built (Instrument n) source (λ x. refl) (refl, (grown_nil (bound v) built.row made built.grown).0) built.grown
    put_right (apply f ts) narrow source inside built = put_symbol (apply f ts) built (Operator f) source (λ x. refl) (refl, omega (arith, fill_many (bound v) ts, narrow.0), grown_terms (bound v) ts built.row made built.grown) built.grown

    pub stepped : Builds m₃ p places m₄ made (Some l) → Stepped m h root s ks place rule.right v m₅ made
    stepped builds = put_right rule.right planned.narrow (ap (λ (x : Piece). x.source) planned.root) (ready p sig rule places kp kept v of planned peeled).inside (row_built m₃ m₄ made (Some l) b builds)
