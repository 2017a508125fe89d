-- Going through the terms of a side in reading order.
use Rattle.std.proofs.Common.{◌≡◌, ℕ, suc, ◌+◌, ◌-◌, ◌<◌, ◌≤◌, Bool, false, [], ◌∷◌, ◌++◌, length, Some, None, is_some, refl, sym, ap, ◌∙◌, inl, inr, add-one, append_assoc, arith}
use Rattle.std.proofs.lemmas.Bool.{cases_lt}
use Rattle.std.proofs.lemmas.List.{length-append, append-nil}
use Rattle.fixed_vec.specs.FixedVec.{items}
use Rattle.terms.specs.declared.symbol.Symbol.TheVariants.{Operator}
use Rattle.terms.specs.Term.{Term, variable, instrument, apply, Terms, nil, cons, symbols, symbols_in}
use Rattle.terms.specs.Rule.{levels, levels_in}
use Rattle.terms.specs.View.{Answers, Stands, StandFrom}
use Rattle.compiled.specs.Symbols.{any}
use Rattle.compiled.specs.Plans.{operators_of, operators_in, operators_under}
use Rattle.compiling.specs.declared.outline.Part.{Part}
use Rattle.compiling.specs.declared.outline.Outline.{Outline}
use Rattle.compiling.specs.Outlines.{part_of, outline_of, outline_under, Outlines}
use Rattle.compiling.specs.Walking.{Room, RoomForTerm, RoomForRow, AddsTerm, AddsRow}
use Rattle.compiling.proofs.Rows.{any_stands, opened, closed}
use Rattle.compiling.proofs.Outlines.{length-outline_under}

-- the arguments of a term
abbrev pub under : Term → Terms
under (variable x) = nil
under (instrument n) = nil
under (apply f ts) = ts

outline_arguments : (t : Term) → outline_of (under t) ≡ outline_under t
outline_arguments (variable x) = refl
outline_arguments (instrument n) = refl
outline_arguments (apply f ts) = refl

symbols_arguments : (t : Term) → symbols t ≡ suc (symbols_in (under t))
symbols_arguments (variable x) = omega arith
symbols_arguments (instrument n) = omega arith
symbols_arguments (apply f ts) = refl

levels_arguments : (t : Term) → levels_in (under t) ≤ levels t
levels_arguments (variable x) = omega arith
levels_arguments (instrument n) = omega arith
levels_arguments (apply f ts) = omega arith

operators_arguments : (t : Term) → operators_of 0 (under t) ≡ operators_under t
operators_arguments (variable x) = refl
operators_arguments (instrument n) = refl
operators_arguments (apply f ts) = refl

mutual
  length-operators_of : (k : ℕ) (ts : Terms) → length (operators_of k ts) ≤ symbols_in ts
  length-operators_of k nil = omega arith
  length-operators_of k (cons t us) = omega (arith, length-operators_in k t, length-operators_of (k + symbols t) us, length-append (operators_in k t) (operators_of (k + symbols t) us))

  length-operators_in : (k : ℕ) (t : Term) → length (operators_in k t) ≤ symbols t
  length-operators_in k (variable x) = omega arith
  length-operators_in k (instrument n) = omega arith
  length-operators_in k (apply f ts) = omega (arith, length-operators_of (suc k) ts, length-append (operators_of (suc k) ts) (k ∷ []))

-- the symbols of a term stand behind those that were there, and its operators but its own
pub record AddsUnder (t : Term) (next : Bool) (before after : Outline) : Type 0 where
  pub root : after.root ≡ before.root
  pub others : items after.others ≡ items before.others ++ part_of t next ∷ outline_under t
  pub operators : items after.operators ≡ items before.operators ++ operators_of (suc (length (items before.others))) (under t)

module _ (v : Answers) (p : ℕ) where
  under_stands : (t : Term) → Stands v p t → StandFrom v p 0 (under t)
  under_stands (variable x) h = h.1
  under_stands (instrument n) h = h.1
  under_stands (apply f ts) h = h.1

  -- from no symbols behind the first on
  pub room_at_first : (t : Term) → Stands v p t → symbols t ≤ 32 → (n : ℕ) → levels t ≤ n → (a : Outline) → items a.others ≡ [] → items a.operators ≡ [] → RoomForRow v p 0 n a
  room_at_first t h few n low a none no_operators = record {
    terms = under t;
    stand = under_stands t h;
    third = omega arith;
    low = omega (arith, low, levels_arguments t);
    room = record { others = omega (arith, ap length none, few, symbols_arguments t); operators = omega (arith, ap length no_operators, few, symbols_arguments t) };
  }

  pub all_outlined : (t : Term) → Stands v p t → (a b : Outline) → a.root ≡ part_of t false → items a.others ≡ [] → items a.operators ≡ [] → ((ts : Terms) → StandFrom v p 0 ts → AddsRow ts a b) → Outlines t b
  all_outlined t h a b root none no_operators row =
      let it = row (under t) (under_stands t h) in
      record {
        root = it.root ∙ root;
        others = it.others ∙ (λ i. none i ++ outline_arguments t i);
        operators = it.operators ∙ (λ i. no_operators i ++ operators_of (length (none i)) (under t)) ∙ operators_arguments t;
      }

  -- a term and its arguments
  module _ (next : Bool) (a b : Outline) (x : Part) (root : b.root ≡ a.root) (pushed : items b.others ≡ items a.others ++ x ∷ []) (same : items b.operators ≡ items a.operators) where
    pub its_arguments : {n : ℕ} → RoomForTerm v p n a → (1 ≤ n) × RoomForRow v p 0 (n - 1) b
    its_arguments {n} room = go room.term room.stands room.low room.room
      where
        counted : length (items b.others) ≡ length (items a.others) + 1
        counted = ap length pushed ∙ length-append (items a.others) (x ∷ [])

        go : (t : Term) → Stands v p t → levels t ≤ n → Room (symbols t) a → (1 ≤ n) × RoomForRow v p 0 (n - 1) b
        go (variable y) h low fits = (low, record { terms = nil; stand = h.1; third = omega arith; low = omega arith; room = record { others = omega (arith, counted, fits.others); operators = omega (arith, ap length same, fits.operators) } })
        go (instrument m) h low fits = (low, record { terms = nil; stand = h.1; third = omega arith; low = omega arith; room = record { others = omega (arith, counted, fits.others); operators = omega (arith, ap length same, fits.operators) } })
        go (apply f ts) h low fits = (omega arith, record { terms = ts; stand = h.1; third = omega arith; low = omega arith; room = record { others = omega (arith, counted, fits.others); operators = omega (arith, ap length same, fits.operators) } })

    module _ (is : (t : Term) → Stands v p t → x ≡ part_of t next) (c : Outline) (row : (ts : Terms) → StandFrom v p 0 ts → AddsRow ts b c) where
      under_added : (t : Term) → Stands v p t → AddsUnder t next a c
      under_added t h =
          let it = row (under t) (under_stands t h) in
          let counted : length (items b.others) ≡ suc (length (items a.others)) = omega (arith, ap length pushed, length-append (items a.others) (x ∷ [])) in
          record {
            root = it.root ∙ root;
            others = it.others ∙ (λ i. pushed i ++ outline_arguments t i) ∙ append_assoc (items a.others) (x ∷ []) (outline_under t) ∙ ap (λ y. items a.others ++ y ∷ outline_under t) (is t h);
            operators = it.operators ∙ (λ i. same i ++ operators_of (counted i) (under t));
          }

      pub operator_fits : {n : ℕ} → RoomForTerm v p n a → (f : ℕ) → x.symbol ≡ Operator f → length (items c.operators) < 32
      operator_fits room f e =
          let t = room.term in
          let k = suc (length (items a.others)) in
          omega (arith, ap length (under_added t room.stands).operators, length-append (items a.operators) (operators_of k (under t)), length-operators_of k (under t), symbols_arguments t, room.room.operators)

      pub leaf_added : ((f : ℕ) → x.symbol ≡ Operator f → ⊥) → (t : Term) → Stands v p t → AddsTerm t next a c
      leaf_added leaf (variable y) h = let it = under_added (variable y) h in record { root = it.root; others = it.others; operators = it.operators }
      leaf_added leaf (instrument m) h = let it = under_added (instrument m) h in record { root = it.root; others = it.others; operators = it.operators }
      leaf_added leaf (apply f ts) h = absurd (leaf f (ap (λ (q : Part). q.symbol) (is (apply f ts) h)))

      pub operator_added : (f : ℕ) → x.symbol ≡ Operator f → (d : Outline) → d.root ≡ c.root → items d.others ≡ items c.others → items d.operators ≡ items c.operators ++ length (items a.others) ∷ [] → (t : Term) → Stands v p t → AddsTerm t next a d
      operator_added f e d root others operators (variable y) h = let z : ⊥ = (let q = ap (λ (q : Part). q.symbol) (is (variable y) h) in cc) in absurd z
      operator_added f e d root others operators (instrument m) h = let z : ⊥ = (let q = ap (λ (q : Part). q.symbol) (is (instrument m) h) in cc) in absurd z
      operator_added f e d root others operators (apply g ts) h =
          let it = under_added (apply g ts) h in
          let k = length (items a.others) in
          record {
            root = root ∙ it.root;
            others = others ∙ it.others;
            operators = operators ∙ ap (λ l. l ++ k ∷ []) it.operators ∙ append_assoc (items a.operators) (operators_of (suc k) ts) (k ∷ []);
          }

  -- the first of a row of terms, and the others
  module _ {k n q : ℕ} {a : Outline} (room : RoomForRow v p k n a) (e : v.argument p k ≡ Some q) where
    pub its_first : RoomForTerm v q n a
    its_first =
        let (t, us, is, h, rest) = opened v p k q room.terms e room.stand in
        record {
          term = t;
          stands = h;
          low = omega (arith, room.low, ap levels_in is);
          room = record { others = omega (arith, room.room.others, ap symbols_in is); operators = omega (arith, room.room.operators, ap symbols_in is) };
        }

    pub its_others : (next : Bool) (b : Outline) → ((t : Term) → Stands v q t → AddsTerm t next a b) → ((n : ℕ) → 3 ≤ n → v.argument p n ≡ None) → RoomForRow v p (k + 1) n b
    its_others next b added few =
        let (t, us, is, h, rest) = opened v p k q room.terms e room.stand in
        let it = added t h in
        let third : k < 3 = elim (cases_lt k 3) [ inl l ↦ l | inr l ↦ (let z : ⊥ = cc (few k l, e) in absurd z) ] in
        let others : length (items b.others) ≡ length (items a.others) + symbols t = omega (arith, ap length it.others, length-append (items a.others) (part_of t next ∷ outline_under t), length-outline_under t) in
        let operators : length (items b.operators) ≤ length (items a.operators) + symbols t = omega (arith, ap length it.operators, length-append (items a.operators) (operators_in (length (items a.others)) t), length-operators_in (length (items a.others)) t) in
        record {
          terms = us;
          stand = rw add-one rest;
          third = omega (arith, third);
          low = omega (arith, room.low, ap levels_in is);
          room = record { others = omega (arith, others, room.room.others, ap symbols_in is); operators = omega (arith, operators, room.room.operators, ap symbols_in is) };
        }

    pub row_added : (next : Bool) → next ≡ is_some (v.argument p (k + 1)) → (b c : Outline) → ((t : Term) → Stands v q t → AddsTerm t next a b) → ((us : Terms) → StandFrom v p (k + 1) us → AddsRow us b c) → (ts : Terms) → StandFrom v p k ts → AddsRow ts a c
    row_added next is_next b c first others ts stand =
        let (t, us, is, h, rest) = opened v p k q ts e stand in
        let one = first t h in
        let more = others us (rw add-one rest) in
        let same : next ≡ any us = is_next ∙ rw add-one (any_stands v p (suc k) us rest) in
        let counted : length (items b.others) ≡ length (items a.others) + symbols t = omega (arith, ap length one.others, length-append (items a.others) (part_of t next ∷ outline_under t), length-outline_under t) in
        rw is (record {
          root = more.root ∙ one.root;
          others = more.others ∙ ap (λ l. l ++ outline_of us) one.others ∙ append_assoc (items a.others) (part_of t next ∷ outline_under t) (outline_of us) ∙ ap (λ y. items a.others ++ part_of t y ∷ (outline_under t ++ outline_of us)) same;
          operators = more.operators ∙ (λ i. one.operators i ++ operators_of (counted i) us) ∙ append_assoc (items a.operators) (operators_in (length (items a.others)) t) (operators_of (length (items a.others) + symbols t) us);
        })

  pub none_added : (k : ℕ) (a : Outline) → v.argument p k ≡ None → (ts : Terms) → StandFrom v p k ts → AddsRow ts a a
  none_added k a e ts h = rw (closed v p k ts e h) (record { root = refl; others = sym (append-nil (items a.others)); operators = sym (append-nil (items a.operators)) })
