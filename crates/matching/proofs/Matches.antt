-- A match under way.
use Rattle.std.proofs.Common.{◌≡◌, ℕ, ◌+◌, ◌<◌, ◌≤◌, cond, true, List, [], ◌∷◌, ◌++◌, append_assoc, append-nil, length, drop, drop-cons, add-one, get_or, Some, None, Option, Result, OnOk, OnErr, refl, sym, ap, ◌∙◌, subst, arith}
use Rattle.std.proofs.Math.Option.{Option as Maybe, none, some}
use Rattle.std.proofs.lemmas.Bool.{false≢true}
use Rattle.std.proofs.lemmas.List.{length_push, drop_all}
use Rattle.std.specs.List.{cons_option}
use Rattle.fixed_vec.specs.declared.Full.{Full}
use Rattle.terms.specs.declared.node.Node.{Node}
use Rattle.terms.specs.declared.symbol.Symbol.{Symbol}
use Rattle.terms.specs.Nodes.{vacant}
use Rattle.terms.specs.Term.{Term, variable, instrument, apply, Terms, nil, cons}
use Rattle.rewriting.specs.Bindings.{Bindings, joined}
use Rattle.rewriting.specs.Next.{matching_all}
use Rattle.node_store.specs.Placed.{Placed, none as no_row, at, link, Holds, IsTerm, AreTerms}
use Rattle.node_store.specs.Loading.{arguments_of}
use Rattle.compiled.specs.declared.Check.{Check}
use Rattle.compiled.specs.Plans.{checks_of, checks_under}
use Rattle.matching.specs.Fitting.{Fits, Begins}
use Rattle.matching.specs.Matching.{Decides}
use Rattle.matching.specs.Onward.{Ahead, Goes}
use Rattle.matching.specs.Peeling.{Peels, done, end, Peeled}
use Rattle.matching.proofs.Onwards.{links, ahead_some, ahead_none, ahead_first, listed}
use Rattle.matching.proofs.Joinings.{matching_rows, joined_nothing, joined_with_nothing, joined_assoc}
use Rattle.matching.proofs.Fittings.{check_of, row_fits, rows_begin, begin_same}
use Rattle.matching.proofs.Pairings.{all_checks, Paired, nothing, row, links_low, Taken, taken}

-- the checks to come are those of rows of the pattern, and with what these peel off the whole is peeled off
pub record Underway (ns : List Node) (left : Terms) (ks : Placed) (ts : Terms) (places : List ℕ) (checks : List Check) (current : Option ℕ) (later : List ℕ) : Type 0 where
  pub patterns : List Terms
  pub rows : List Placed
  pub terms : List Terms
  pub kept : List Placed
  pub bindings : Bindings
  pub paired : Paired ns patterns rows terms
  pub all : all_checks patterns ≡ checks
  pub few : length places + length checks ≤ 32
  pub ahead : Ahead current later (links rows)
  pub peels : (ps : List ℕ) (rest : List Placed) (m : Bindings) → Peels patterns rows ps rest m → Peeled left ks (places ++ ps) (kept ++ rest) (bindings ++ m)
  pub matched : matching_all left ts ≡ joined (some bindings) (matching_rows patterns terms)

module _ (ns : List Node) (left : Terms) (ks : Placed) (ts : Terms) where
  pub match_starts : (first : Option ℕ) (places later : List ℕ) (checks : List Check) → Begins ns (checks_of left) first → Holds ns ks → link ks ≡ first → AreTerms ks ts → checks ≡ checks_of left → length checks ≤ 32 → places ≡ [] → later ≡ [] → Underway ns left ks ts places checks first later
  match_starts first places later checks b h e a c f o n = record {
    patterns = left ∷ [];
    rows = ks ∷ [];
    terms = ts ∷ [];
    kept = [];
    bindings = [];
    paired = row (begin_same ns left ks (subst (Begins ns (checks_of left)) (sym e) b)) h a nothing;
    all = append-nil (checks_of left) ∙ sym c;
    few = let z = ap length o in omega arith;
    ahead = ahead_first ks first later e n;
    peels = λ ps rest m w. subst (λ l. Peeled left ks (l ++ ps) rest m) (sym o) w;
    matched = sym (joined_nothing (joined (matching_all left ts) (some [])) ∙ joined_with_nothing (matching_all left ts));
  }

  -- a mismatch at the start
  pub begins_not : (first : Option ℕ) → (Begins ns (checks_of left) first → ⊥) → Holds ns ks → link ks ≡ first → AreTerms ks ts → matching_all left ts ≡ none
  begins_not first b h e a = go (matching_all left ts) refl
    where
      go : (o : Maybe Bindings) → matching_all left ts ≡ o → o ≡ none
      go none q = refl
      go (some m) q = absurd (b (subst (Begins ns (checks_of left)) e (rows_begin ns left ts ks m q h a)))

-- the first rows that are not empty
record Front (ns : List Node) (patterns : List Terms) (rows : List Placed) (terms : List Terms) (c : Check) (cs : List Check) : Type 0 where
  t : Term
  u : Term
  ts : Terms
  us : Terms
  i : ℕ
  s : Option Symbol
  ks : Placed
  rs : Placed
  tss : List Terms
  uss : List Terms
  qs : List Placed
  holds : Holds ns (at i s ks rs)
  is : IsTerm s ks u
  are : AreTerms rs us
  paired : Paired ns tss qs uss
  first : check_of t ts ≡ c
  all : all_checks (cons t ts ∷ tss) ≡ c ∷ cs
  links : links rows ≡ i ∷ links qs
  peels : (ps : List ℕ) (rest : List Placed) (m : Bindings) → Peels (cons t ts ∷ tss) (at i s ks rs ∷ qs) ps rest m → Peels patterns rows ps rest m
  matched : matching_rows patterns terms ≡ matching_rows (cons t ts ∷ tss) (cons u us ∷ uss)

front : {ns : List Node} {patterns terms : List Terms} {rows : List Placed} (c : Check) (cs : List Check) → Paired ns patterns rows terms → all_checks patterns ≡ c ∷ cs → Front ns patterns rows terms c cs
front c cs nothing e = absurd (false≢true cc)
front c cs (row {ts = nil} {us = nil} {q = no_row} {tss = tss} {uss = uss} {qs = qs} d h a r) e =
    let f = front c cs r e in
    record {
      t = f.t;
      u = f.u;
      ts = f.ts;
      us = f.us;
      i = f.i;
      s = f.s;
      ks = f.ks;
      rs = f.rs;
      tss = f.tss;
      uss = f.uss;
      qs = f.qs;
      holds = f.holds;
      is = f.is;
      are = f.are;
      paired = f.paired;
      first = f.first;
      all = f.all;
      links = f.links;
      peels = λ ps rest m w. end (f.peels ps rest m w);
      matched = joined_nothing (matching_rows tss uss) ∙ f.matched;
    }
front c cs (row {ts = nil} {us = cons u us} {q = no_row} d h a r) e = absurd a
front c cs (row {ts = nil} {us = us} {q = at i s ks rs} d h a r) e = absurd (false≢true cc)
front c cs (row {ts = cons t ts} {us = us} {q = no_row} d h a r) e = absurd (false≢true cc)
front c cs (row {ts = cons t ts} {us = nil} {q = at i s ks rs} d h a r) e = absurd a
front c cs (row {ts = cons t ts} {us = cons u us} {q = at i s ks rs} {tss = tss} {uss = uss} {qs = qs} d h a r) e = record {
  t = t;
  u = u;
  ts = ts;
  us = us;
  i = i;
  s = s;
  ks = ks;
  rs = rs;
  tss = tss;
  uss = uss;
  qs = qs;
  holds = h;
  is = a.0;
  are = a.1;
  paired = r;
  first = cc;
  all = e;
  links = refl;
  peels = λ ps rest m w. w;
  matched = refl;
}

regrouped : {left : Terms} {ks : Placed} (ps ps′ : List ℕ) (a b d : List Placed) (k l m : Bindings) → ps′ ≡ ps → Peeled left ks ps (a ++ (b ++ d)) (k ++ (l ++ m)) → Peeled left ks ps′ (a ++ b ++ d) (k ++ l ++ m)
regrouped {left = left} {ks = ks} ps ps′ a b d k l m e w =
    subst (λ q. Peeled left ks q (a ++ b ++ d) (k ++ l ++ m)) (sym e)
    (subst (λ q. Peeled left ks ps q (k ++ l ++ m)) (sym (append_assoc a b d))
    (subst (λ q. Peeled left ks ps (a ++ (b ++ d)) q) (sym (append_assoc k l m)) w))

module _ (ns : List Node) (left : Terms) (ks : Placed) (ts : Terms) (c : Check) (cs : List Check) (p : ℕ) (current : Option ℕ) (later places : List ℕ) (x : Node) (w : Underway ns left ks ts places (c ∷ cs) current later) (is : current ≡ Some p) (node : x ≡ get_or ns p vacant) where
  to_come : links w.rows ≡ p ∷ later
  to_come = ahead_some p current later (links w.rows) is w.ahead

  seen : (f : Front ns w.patterns w.rows w.terms c cs) → x ≡ record { symbol = f.s; first = link f.ks; next = link f.rs }
  seen f = let e = to_come in let l = f.links in let z : p ≡ f.i = cc in node ∙ ap (λ i. get_or ns i vacant) z ∙ f.holds.1

  next_step : (places′ later′ : List ℕ) (current′ : Option ℕ) → Fits c x → places′ ≡ places ++ p ∷ [] → (length later < 32 → Ahead current′ later′ (cons_option (cond c.has_first x.first None) (cons_option x.next later))) → (f : Front ns w.patterns w.rows w.terms c cs)
      → Taken ns f.t f.u f.ts f.us f.i f.s f.ks f.rs f.tss f.uss f.qs → Underway ns left ks ts places′ cs current′ later′
  next_step places′ later′ current′ fits put goes f t =
      let e = to_come in
      let l = f.links in
      let z : f.i ≡ p = cc in
      let y : links f.qs ≡ later = cc in
      let few = w.few in
      let low = links_low w.paired in
      let long = ap length e in
      let same = ap length w.all in
      let new = ap length put ∙ length_push places p in
      let v : x ≡ record { symbol = f.s; first = link f.ks; next = link f.rs } = seen f in
      record {
        patterns = t.patterns;
        rows = t.rows;
        terms = t.terms;
        kept = w.kept ++ t.kept;
        bindings = w.bindings ++ t.bindings;
        paired = t.paired;
        all = let a = f.all in let b = t.checks in cc;
        few = omega arith;
        ahead = subst (Ahead current′ later′) (sym (t.links ∙ (λ d. cons_option (cond (f.first d).has_first (sym v d).first None) (cons_option (sym v d).next (y d))))) (goes (omega arith));
        peels = λ ps rest m r. regrouped (places ++ f.i ∷ ps) (places′ ++ ps) w.kept t.kept rest w.bindings t.bindings m
            (ap (λ l. l ++ ps) put ∙ append_assoc places (p ∷ []) ps ∙ ap (λ i. places ++ i ∷ ps) (sym z))
            (w.peels (f.i ∷ ps) (t.kept ++ rest) (t.bindings ++ m) (f.peels (f.i ∷ ps) (t.kept ++ rest) (t.bindings ++ m) (t.peels ps rest m r)));
        matched = w.matched ∙ ap (joined (some w.bindings)) (f.matched ∙ t.matched) ∙ sym (joined_assoc (some w.bindings) (some t.bindings) (matching_rows t.patterns t.terms));
      }

  -- one check more
  pub match_step : (n : ℕ) (places′ later′ : List ℕ) (current′ b : Option ℕ) (r : Result (Unit {0}) Full) → 32 ≤ n → Fits c x → b ≡ cond c.has_first x.first None → OnOk r (places′ ≡ places ++ p ∷ []) → OnErr r (n ≤ length places) → Goes 32 b x.next later later′ current′
      → Underway ns left ks ts places′ cs current′ later′
  match_step n places′ later′ current′ b r many fits e put full goes =
      let f = front c cs w.paired w.all in
      let few = w.few in
      let v = subst (λ z. Fits z x) (sym f.first) fits in
      next_step places′ later′ current′ fits (listed n places places′ p r (omega arith) put full) (λ low. subst (λ o. Ahead current′ later′ (cons_option o (cons_option x.next later))) e (goes low)) f
      (taken ns f.ts f.us f.i f.s f.ks f.rs f.tss f.uss f.qs f.t f.u (subst (Fits (check_of f.t f.ts)) (seen f) v) f.holds f.is f.are f.paired)

  -- a check that fails
  pub match_fails : (Fits c x → ⊥) → matching_all left ts ≡ none
  match_fails fails = go (front c cs w.paired w.all)
    where
      go : Front ns w.patterns w.rows w.terms c cs → matching_all left ts ≡ none
      go f = w.matched ∙ ap (joined (some w.bindings)) (f.matched ∙ under (matching_all (cons f.t f.ts) (cons f.u f.us)) refl)
        where
          under : (o : Maybe Bindings) → matching_all (cons f.t f.ts) (cons f.u f.us) ≡ o → joined o (matching_rows f.tss f.uss) ≡ none
          under none e = refl
          under (some m) e = absurd (fails (subst (λ z. Fits z x) f.first (subst (Fits (check_of f.t f.ts)) (sym (seen f)) (subst (Fits (check_of f.t f.ts)) f.holds.1 (row_fits ns f.t f.u f.ts f.us f.i f.s f.ks f.rs m e f.holds (f.is, f.are))))))

-- while checks are to come, so are nodes
pub match_misses : (ns : List Node) (left : Terms) (ks : Placed) (ts : Terms) (c : Check) (cs : List Check) (current : Option ℕ) (later places : List ℕ) → current ≡ None → Underway ns left ks ts places (c ∷ cs) current later → ⊥
match_misses ns left ks ts c cs current later places e w =
    let f = front c cs w.paired w.all in
    let a = (ahead_none current later (links w.rows) e w.ahead).1 in
    let b = f.links in
    false≢true cc

-- nothing is left where no check is to come
record Ended (patterns : List Terms) (rows : List Placed) (terms : List Terms) : Type 0 where
  peeled : Peels patterns rows [] [] []
  matched : matching_rows patterns terms ≡ some []

ended : {ns : List Node} {patterns terms : List Terms} {rows : List Placed} → Paired ns patterns rows terms → all_checks patterns ≡ [] → Ended patterns rows terms
ended nothing e = record { peeled = done; matched = refl }
ended (row {ts = nil} {us = nil} {q = no_row} {tss = tss} {uss = uss} d h a r) e = let x = ended r e in record { peeled = end x.peeled; matched = joined_nothing (matching_rows tss uss) ∙ x.matched }
ended (row {ts = nil} {us = cons u us} {q = no_row} d h a r) e = absurd a
ended (row {ts = nil} {q = at i s ks rs} d h a r) e = absurd (false≢true cc)
ended (row {ts = cons t ts} d h a r) e = absurd (false≢true cc)

pub match_ends : (ns : List Node) (left : Terms) (ks : Placed) (ts : Terms) (current : Option ℕ) (later places : List ℕ) → Underway ns left ks ts places [] current later → Decides left ks ts places true
match_ends ns left ks ts current later places w =
    let x = ended w.paired w.all in
    (w.kept, w.bindings, whole (w.peels [] [] [] x.peeled), w.matched ∙ ap (joined (some w.bindings)) x.matched ∙ joined_with_nothing (some w.bindings))
  where
    whole : Peeled left ks (places ++ []) (w.kept ++ []) (w.bindings ++ []) → Peeled left ks places w.kept w.bindings
    whole r =
        subst (λ q. Peeled left ks q w.kept w.bindings) (append-nil places)
        (subst (λ q. Peeled left ks (places ++ []) q w.bindings) (append-nil w.kept)
        (subst (λ q. Peeled left ks (places ++ []) (w.kept ++ []) q) (append-nil w.bindings) r))

-- the checks of a rule, whose left side begins with an operator or has no arguments
pub checks_same : (t : Term) → checks_under t ≡ checks_of (arguments_of t)
checks_same (variable x) = refl
checks_same (instrument n) = refl
checks_same (apply f ts) = refl

-- the check that is next
pub next_check : (ns : List Node) (left : Terms) (ks : Placed) (ts : Terms) (places : List ℕ) (checks : List Check) (k : ℕ) (d : Check) (current : Option ℕ) (later : List ℕ) → k < length checks → Underway ns left ks ts places (drop k checks) current later
    → Underway ns left ks ts places (get_or checks k d ∷ drop (k + 1) checks) current later
next_check ns left ks ts places checks k d current later h w = subst (λ l. Underway ns left ks ts places l current later) (drop-cons checks k d h ∙ ap (λ n. get_or checks k d ∷ drop n checks) (sym (add-one k))) w

-- no check is next
pub no_check : (ns : List Node) (left : Terms) (ks : Placed) (ts : Terms) (places : List ℕ) (checks : List Check) (k : ℕ) (current : Option ℕ) (later : List ℕ) → length checks ≤ k → Underway ns left ks ts places (drop k checks) current later → Underway ns left ks ts places [] current later
no_check ns left ks ts places checks k current later h w = subst (λ l. Underway ns left ks ts places l current later) (drop_all k checks h) w
