-- Turning the row of nodes given back, and using its first node.
use Rattle.std.proofs.Common.{◌≡◌, ◌≢◌, ℕ, ◌+◌, ◌-◌, ◌<◌, ◌≤◌, List, ◌∷◌, length, get_or, set, Some, None, Option, sym, refl, ap, ◌∙◌, subst, ⊎_elim, arith}
use Rattle.std.proofs.lemmas.Bool.{cases_lt}
use Rattle.std.proofs.lemmas.List.{get_or-set_same, get_or-set_other, length-set}
use Rattle.terms.specs.declared.node.Node.{Node}
use Rattle.terms.specs.declared.symbol.Symbol.{Symbol}
use Rattle.terms.specs.Nodes.{vacant}
use Rattle.node_store.specs.Memory.{Memory}
use Rattle.node_store.specs.Placed.{Placed, none, at, link, Holds, hit, occ, size, Held}
use Rattle.node_store.specs.Sound.{unused}
use Rattle.node_store.specs.Work.{Work, below, Turned, turned, reused, opened, FirstUnused, Joined}
use Rattle.node_store.proofs.Placing.{hit_self, no_hit, keep_set, keep_all_set, keep_rows_set}
use Rattle.node_store.proofs.Standing.{hit_cases}
use Rattle.node_store.proofs.Helds.{unused_none, unused_some, blank_set}

below_size : (g : Placed) → below g ≤ size g
below_size none = omega arith
below_size (at i s ks us) = omega arith

pub unturned : (m : Memory) (h : Held) (qs : List Placed) (g : Placed) → Work m h qs g → Turned m h qs m m.free
unturned m h qs g w = record { gone = g; work = w; few = omega (arith, below_size g, w.count); free = refl; long = refl }

module _ (m : Memory) (h : Held) (qs : List Placed) (k : Memory) where
  -- nothing is left to turn
  pub none_gone : (n : ℕ) → k.freed ≡ None → Turned m h qs k n → Turned m h qs k 0
  none_gone n e w = record { gone = w.gone; work = w.work; few = go w.gone (w.work.begins ∙ e); free = w.free; long = w.long }
    where
      go : (g : Placed) → link g ≡ None → below g ≤ 0
      go none z = omega arith
      go (at i s ks us) z = let x : ◌≡◌ {A = ℕ} 0 1 = cc in absurd (let y : ⊥ = omega arith in y)

  pub none_below : (n r : ℕ) → k.freed ≡ Some r → (get_or k.nodes r vacant).first ≡ None → Turned m h qs k n → Turned m h qs k 0
  none_below n r e f w = record { gone = w.gone; work = w.work; few = go w.gone (w.work.begins ∙ e) w.work.row; free = w.free; long = w.long }
    where
      bare : (ks : Placed) → link ks ≡ None → size ks ≤ 0
      bare none z = omega arith
      bare (at i s x y) z = let x : ◌≡◌ {A = ℕ} 0 1 = cc in absurd (let y : ⊥ = omega arith in y)

      go : (g : Placed) → link g ≡ Some r → Holds k.nodes g → below g ≤ 0
      go none z q = omega arith
      go (at i s ks us) z q =
          let y : i ≡ r = cc in
          bare ks (sym (ap (λ (x : Node). x.first) q.1) ∙ ap (λ j. (get_or k.nodes j vacant).first) y ∙ f)

-- two nodes of the row given back are written
module _ (m : Memory) (h : Held) (qs : List Placed) (i k : ℕ) (s t : Option Symbol) (x y us : Placed) (w : Work m h qs (at i s (at k t x y) us)) where
  apart : i ≢ k
  apart = no_hit i k (let o = w.once i in let z = hit_self i in omega arith)

  n₁ : Node
  n₁ = record { symbol = (get_or m.nodes i vacant).symbol; first = (get_or m.nodes k vacant).next; next = (get_or m.nodes i vacant).next }

  n₂ : Node
  n₂ = record { symbol = (get_or m.nodes k vacant).symbol; first = (get_or m.nodes k vacant).first; next = Some i }

  e₁ : n₁ ≡ record { symbol = s; first = link y; next = link us }
  unfolding n₁
  e₁ = λ d. record { symbol = (w.row.1 d).symbol; first = (w.row.2.1 d).next; next = (w.row.1 d).next }

  e₂ : n₂ ≡ record { symbol = t; first = link x; next = Some i }
  unfolding n₂
  e₂ = λ d. record { symbol = (w.row.2.1 d).symbol; first = (w.row.2.1 d).first; next = Some i }

  both : List Node
  both = set (set m.nodes i n₁) k n₂

  kept : (q : Placed) → occ i q ≡ 0 → occ k q ≡ 0 → Holds m.nodes q → Holds both q
  unfolding both
  kept q u v z = keep_set (set m.nodes i n₁) k n₂ q v (keep_set m.nodes i n₁ q u z)

  pub turn_work : Work (turned m i k) h qs (at k t x (at i s y us))
  unfolding both n₁ n₂
  turn_work =
      let oi = w.once i in
      let ok = w.once k in
      let hi = hit_self i in
      let hk = hit_self k in
      let l₁ = length-set m.nodes i n₁ in
      let l₂ = length-set (set m.nodes i n₁) k n₂ in
      let li = w.row.0 in
      let lk = w.row.2.0 in
      record {
        terms = keep_all_set (set m.nodes i n₁) k n₂ h (omega arith) (keep_all_set m.nodes i n₁ h (omega arith) w.terms);
        rows = keep_rows_set (set m.nodes i n₁) k n₂ qs (omega arith) (keep_rows_set m.nodes i n₁ qs (omega arith) w.rows);
        begins = refl;
        row = (
          omega arith,
          get_or-set_same (set m.nodes i n₁) k n₂ vacant (omega arith) ∙ e₂,
          kept x (omega arith) (omega arith) w.row.2.2,
          (
            omega arith,
            get_or-set_other (set m.nodes i n₁) k i n₂ vacant apart ∙ get_or-set_same m.nodes i n₁ vacant li ∙ e₁,
            kept y (omega arith) (omega arith) w.row.2.3,
            kept us (omega arith) (omega arith) w.row.3,
          ),
        );
        once = λ j. let o = w.once j in omega arith;
        blank = blank_set (set m.nodes i n₁) m.fresh k n₂ (omega arith) (blank_set m.nodes m.fresh i n₁ (omega arith) w.blank);
        within = omega (arith, w.within);
        count = omega (arith, w.count);
      }

pub turn_more : (m : Memory) (h : Held) (qs : List Placed) (k : Memory) (n r l : ℕ) → k.freed ≡ Some r → (get_or k.nodes r vacant).first ≡ Some l → Turned m h qs k n → Turned m h qs (turned k r l) (n - 1)
turn_more m h qs k n r l e f w = go w.gone (w.work.begins ∙ e) w.work w.few
  where
    Next : Type 0
    Next = Turned m h qs (turned k r l) (n - 1)

    inner : (i : ℕ) (s : Option Symbol) (ks us : Placed) → i ≡ r → link ks ≡ Some l → Work k h qs (at i s ks us) → size ks ≤ n → Turned m h qs (turned k r l) (n - 1)
    inner i s none us z y w′ few = let v : ◌≡◌ {A = ℕ} 0 1 = cc in absurd (let u : ⊥ = omega arith in u)
    inner i s (at j t p q) us z y w′ few =
        let v : j ≡ l = cc in
        let l₁ = length-set k.nodes i (record { symbol = (get_or k.nodes i vacant).symbol; first = (get_or k.nodes j vacant).next; next = (get_or k.nodes i vacant).next }) in
        let l₂ = length-set (set k.nodes i (record { symbol = (get_or k.nodes i vacant).symbol; first = (get_or k.nodes j vacant).next; next = (get_or k.nodes i vacant).next })) j (record { symbol = (get_or k.nodes j vacant).symbol; first = (get_or k.nodes j vacant).first; next = Some i }) in
        subst (λ c. Turned m h qs (turned k c l) (n - 1)) z (subst (λ c. Turned m h qs (turned k i c) (n - 1)) v (record {
          gone = at j t p (at i s q us);
          work = turn_work k h qs i j s t p q us w′;
          few = omega arith;
          free = w.free;
          long = l₂ ∙ l₁ ∙ w.long;
        }))

    go : (g : Placed) → link g ≡ Some r → Work k h qs g → below g ≤ n → Turned m h qs (turned k r l) (n - 1)
    go none z w′ few = let v : ◌≡◌ {A = ℕ} 0 1 = cc in absurd (let u : ⊥ = omega arith in u)
    go (at i s ks us) z w′ few =
        let y : i ≡ r = cc in
        inner i s ks us y (sym (ap (λ (x : Node). x.first) w′.row.1) ∙ ap (λ j. (get_or k.nodes j vacant).first) y ∙ f) w′ few

pub settled : (m : Memory) (h : Held) (qs : List Placed) (k : Memory) (n : ℕ) → n ≡ 0 → Turned m h qs k n → Turned m h qs k 0
settled m h qs k n e w = subst (Turned m h qs k) e w

-- the mark goes up by one
next_unused : (f j : ℕ) → unused f j ≡ hit j f + unused (f + 1) j
next_unused f j = ⊎_elim
    (λ (x : j < f). let a = unused_none f j x in let b = unused_none (f + 1) j (omega arith) in let c = miss (λ e. let y : ⊥ = omega arith in y) in omega arith)
    (λ (x : f ≤ j). ⊎_elim
    (λ (y : j < f + 1). let e : j ≡ f = omega arith in let a = unused_some f j x in let b = unused_none (f + 1) j y in let c = subst (λ k. hit k f ≡ 1) (sym e) (hit_self f) in omega arith)
    (λ (y : f + 1 ≤ j). let a = unused_some f j x in let b = unused_some (f + 1) j y in let c = miss (λ e. let y : ⊥ = omega arith in y) in omega arith)
    (cases_lt j (f + 1)))
    (cases_lt j f)
  where
    miss : j ≢ f → hit j f ≡ 0
    miss n = ⊎_elim (λ (e : j ≡ f). absurd (n e)) (λ z. z) (hit_cases j f)

module _ (m : Memory) (h : Held) (a b : Placed) (qs : List Placed) (k : Memory) where
  -- no node is free
  pub joined_none : k.freed ≡ None → length k.nodes ≤ k.fresh → Turned m h (a ∷ b ∷ qs) k 0 → m.free ≡ 0
  joined_none e f w = let z = go w.gone (w.work.begins ∙ e) in omega (arith, w.work.count, w.free)
    where
      go : (g : Placed) → link g ≡ None → size g ≡ 0
      go none z = refl
      go (at i s ks us) z = let x : ◌≡◌ {A = ℕ} 0 1 = cc in absurd (let y : ⊥ = omega arith in y)

  pub joined_reuse : (p : ℕ) (s : Symbol) (first next : Option ℕ) → k.freed ≡ Some p → link a ≡ first → link b ≡ next → Turned m h (a ∷ b ∷ qs) k 0 → Joined m h (Some s) a b qs (reused k p (record { symbol = Some s; first = first; next = next })) (Some p)
  joined_reuse p s first next e ea eb w = go w.gone (w.work.begins ∙ e) w.work w.few
    where
      bare : (ks : Placed) → size ks ≤ 0 → ks ≡ none
      bare none z = refl
      bare (at i s x y) z = absurd (let u : ⊥ = omega arith in u)

      go : (g : Placed) → link g ≡ Some p → Work k h (a ∷ b ∷ qs) g → below g ≤ 0 → Joined m h (Some s) a b qs (reused k p (record { symbol = Some s; first = first; next = next })) (Some p)
      go none z w′ few = let v : ◌≡◌ {A = ℕ} 0 1 = cc in absurd (let u : ⊥ = omega arith in u)
      go (at i t ks us) z w′ few =
          let y : i ≡ p = cc in
          let x : Node = record { symbol = Some s; first = first; next = next } in
          let o = w′.once p in
          let hp : hit p i ≡ 1 = subst (λ c. hit p c ≡ 1) (sym y) (hit_self p) in
          let l = length-set k.nodes p x in
          let ip : p < length k.nodes = subst (λ c. c < length k.nodes) y w′.row.0 in
          let ex : x ≡ record { symbol = Some s; first = link a; next = link b } = λ d. record { symbol = Some s; first = sym ea d; next = sym eb d } in
          let c = w′.count in
          let f = w.free in
          let kz = ap size (bare ks (omega arith)) in (
            us,
            record {
              terms = keep_all_set k.nodes p x h (omega arith) w′.terms;
              rows = ((omega arith, get_or-set_same k.nodes p x vacant ip ∙ ex, keep_set k.nodes p x a (omega arith) w′.rows.0, keep_set k.nodes p x b (omega arith) w′.rows.1.0), keep_rows_set k.nodes p x qs (omega arith) w′.rows.1.1);
              begins = sym (ap (λ (n : Node). n.next) w′.row.1) ∙ ap (λ j. (get_or k.nodes j vacant).next) y;
              row = keep_set k.nodes p x us (omega arith) w′.row.3;
              once = λ j. let o = w′.once j in let e : hit j p ≡ hit j i = ap (hit j) (sym y) in let z = ap (occ j) (bare ks (omega arith)) in omega arith;
              blank = blank_set k.nodes k.fresh p x (omega arith) w′.blank;
              within = omega (arith, w′.within);
              count = omega arith;
            },
            omega arith,
            l ∙ w.long,
          )

  pub joined_open : (s : Symbol) (first next : Option ℕ) → k.freed ≡ None → k.fresh < length k.nodes → link a ≡ first → link b ≡ next → Turned m h (a ∷ b ∷ qs) k 0 → Joined m h (Some s) a b qs (opened k (record { symbol = Some s; first = first; next = next })) (Some k.fresh)
  joined_open s first next e lt ea eb w = go w.gone (w.work.begins ∙ e) w.work
    where
      go : (g : Placed) → link g ≡ None → Work k h (a ∷ b ∷ qs) g → Joined m h (Some s) a b qs (opened k (record { symbol = Some s; first = first; next = next })) (Some k.fresh)
      go (at i t ks us) z w′ = let v : ◌≡◌ {A = ℕ} 0 1 = cc in absurd (let u : ⊥ = omega arith in u)
      go none z w′ =
          let p = k.fresh in
          let x : Node = record { symbol = Some s; first = first; next = next } in
          let o = w′.once p in
          let up = unused_some p p (omega arith) in
          let l = length-set k.nodes p x in
          let ex : x ≡ record { symbol = Some s; first = link a; next = link b } = λ d. record { symbol = Some s; first = sym ea d; next = sym eb d } in
          let c = w′.count in
          let f = w.free in (
            none,
            record {
              terms = keep_all_set k.nodes p x h (omega arith) w′.terms;
              rows = ((omega arith, get_or-set_same k.nodes p x vacant lt ∙ ex, keep_set k.nodes p x a (omega arith) w′.rows.0, keep_set k.nodes p x b (omega arith) w′.rows.1.0), keep_rows_set k.nodes p x qs (omega arith) w′.rows.1.1);
              begins = w′.begins;
              row = tt;
              once = λ j. let o = w′.once j in let n = next_unused p j in omega arith;
              blank = λ j q. get_or-set_other k.nodes p j x vacant (λ z. let y : ⊥ = omega arith in y) ∙ w′.blank j (omega arith);
              within = omega arith;
              count = omega arith;
            },
            omega arith,
            l ∙ w.long,
          )

pub turn_step : (m : Memory) (h : Held) (qs : List Placed) (k k′ : Memory) (n i r l : ℕ) → k′ ≡ turned k r l → n - 1 ≡ i → k.freed ≡ Some r → (get_or k.nodes r vacant).first ≡ Some l → Turned m h qs k n → Turned m h qs k′ i
turn_step m h qs k k′ n i r l e z f g w = subst (λ x. Turned m h qs x i) (sym e) (subst (Turned m h qs (turned k r l)) z (turn_more m h qs k n r l f g w))

pub reuse_joins : (m : Memory) (h : Held) (a b : Placed) (qs : List Placed) (k k′ : Memory) (p : ℕ) (s : Symbol) (first next : Option ℕ) → k′ ≡ reused k p (record { symbol = Some s; first = first; next = next }) → k.freed ≡ Some p → link a ≡ first → link b ≡ next → Turned m h (a ∷ b ∷ qs) k 0 → Joined m h (Some s) a b qs k′ (Some p)
reuse_joins m h a b qs k k′ p s first next z e ea eb w = subst (λ x. Joined m h (Some s) a b qs x (Some p)) (sym z) (joined_reuse m h a b qs k p s first next e ea eb w)

pub open_joins : (m : Memory) (h : Held) (a b : Placed) (qs : List Placed) (k k′ : Memory) (p : ℕ) (s : Symbol) (first next : Option ℕ) → k′ ≡ opened k (record { symbol = Some s; first = first; next = next }) → k.freed ≡ None → FirstUnused k (Some p) → link a ≡ first → link b ≡ next → Turned m h (a ∷ b ∷ qs) k 0 → Joined m h (Some s) a b qs k′ (Some p)
open_joins m h a b qs k k′ p s first next z e (is, lt) ea eb w =
    subst (λ x. Joined m h (Some s) a b qs x (Some p)) (sym z) (subst (λ i. Joined m h (Some s) a b qs (opened k (record { symbol = Some s; first = first; next = next })) (Some i)) (sym is) (joined_open m h a b qs k s first next e (omega arith) ea eb w))
