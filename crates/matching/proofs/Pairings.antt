-- Rows of a pattern beside rows of nodes, of which the first symbol is taken off.
use Rattle.std.proofs.Common.{◌≡◌, ℕ, ◌≤◌, cond, Bool, true, false, List, [], ◌∷◌, ◌++◌, append_assoc, length, length-append, Some, None, Option, is_some, refl, sym, ap, ◌∙◌, subst, arith, eq-eqb}
use Rattle.std.proofs.lemmas.Bool.{false≢true}
use Rattle.std.proofs.Math.Option.{none, some}
use Rattle.std.specs.List.{cons_option}
use Rattle.terms.specs.declared.node.Node.{Node}
use Rattle.terms.specs.declared.symbol.Symbol.{Symbol}
use Rattle.terms.specs.declared.symbol.Symbol.TheVariants.{Instrument, Operator}
use Rattle.terms.specs.Term.{Term, variable, instrument, apply, Terms, nil, cons}
use Rattle.rewriting.specs.Bindings.{Bindings, joined}
use Rattle.rewriting.specs.Next.{matching_all}
use Rattle.node_store.specs.Placed.{Placed, none as no_row, at, link, Holds, IsTerm, AreTerms}
use Rattle.compiled.specs.declared.Check.{Check}
use Rattle.compiled.specs.Symbols.{any, has_arguments}
use Rattle.compiled.specs.Plans.{checks_of}
use Rattle.matching.specs.Fitting.{Fits}
use Rattle.matching.specs.Peeling.{Peels, bind, leaf, under}
use Rattle.matching.proofs.Onwards.{links}
use Rattle.matching.proofs.Joinings.{matching_rows, joined_nothing, joined_assoc}
use Rattle.matching.proofs.Fittings.{check_of}

-- the checks of some rows
abbrev pub all_checks : List Terms → List Check
all_checks [] = []
all_checks (ts ∷ tss) = checks_of ts ++ all_checks tss

-- the rows of nodes are held and have these terms, and each is empty exactly if that of the pattern is
pub data Paired (ns : List Node) : List Terms → List Placed → List Terms → Type 0 where
  nothing : Paired ns [] [] []
  row : {ts us : Terms} {q : Placed} {tss uss : List Terms} {qs : List Placed} → is_some (link q) ≡ any ts → Holds ns q → AreTerms q us → Paired ns tss qs uss → Paired ns (ts ∷ tss) (q ∷ qs) (us ∷ uss)

-- as many nodes are waited for as there are checks at most
pub links_low : {ns : List Node} {tss uss : List Terms} {qs : List Placed} → Paired ns tss qs uss → length (links qs) ≤ length (all_checks tss)
links_low nothing = omega arith
links_low (row {ts = ts} {q = q} {tss = tss} {qs = qs} e h a r) = go ts q e (links_low r)
  where
    go : (ts : Terms) (q : Placed) → is_some (link q) ≡ any ts → length (links qs) ≤ length (all_checks tss) → length (links (q ∷ qs)) ≤ length (all_checks (ts ∷ tss))
    go nil no_row e h = h
    go (cons t ts) no_row e h = absurd (false≢true cc)
    go nil (at i s ks us) e h = absurd (false≢true cc)
    go (cons t ts) (at i s ks us) e h = let l = length-append (checks_of (cons t ts)) (all_checks tss) in omega arith

module _ (ns : List Node) (t u : Term) (ts us : Terms) (i : ℕ) (s : Option Symbol) (ks rs : Placed) (tss uss : List Terms) (qs : List Placed) where
  -- the rows that are left when the first symbol is taken off, and what they say of all
  pub record Taken : Type 0 where
    pub patterns : List Terms
    pub rows : List Placed
    pub terms : List Terms
    pub kept : List Placed
    pub bindings : Bindings
    pub paired : Paired ns patterns rows terms
    pub checks : all_checks (cons t ts ∷ tss) ≡ check_of t ts ∷ all_checks patterns
    pub links : links rows ≡ cons_option (cond (has_arguments t) (link ks) None) (cons_option (link rs) (links qs))
    pub peels : (ps : List ℕ) (rest : List Placed) (m : Bindings) → Peels patterns rows ps rest m → Peels (cons t ts ∷ tss) (at i s ks rs ∷ qs) (i ∷ ps) (kept ++ rest) (bindings ++ m)
    pub matched : matching_rows (cons t ts ∷ tss) (cons u us ∷ uss) ≡ joined (some bindings) (matching_rows patterns terms)

module _ (ns : List Node) (ts us : Terms) (i : ℕ) (s : Option Symbol) (ks rs : Placed) (tss uss : List Terms) (qs : List Placed) where
  taken_variable : (x : ℕ) (u : Term) → is_some (link rs) ≡ any ts → Holds ns (at i s ks rs) → IsTerm s ks u → AreTerms rs us → Paired ns tss qs uss → Taken ns (variable x) u ts us i s ks rs tss uss qs
  taken_variable x u e h is are r = record {
    patterns = ts ∷ tss;
    rows = rs ∷ qs;
    terms = us ∷ uss;
    kept = at i s ks no_row ∷ [];
    bindings = (x, u) ∷ [];
    paired = row e h.3 are r;
    checks = refl;
    links = refl;
    peels = λ ps rest m w. bind is w;
    matched = joined_assoc (some ((x, u) ∷ [])) (matching_all ts us) (matching_rows tss uss);
  }

  taken_instrument : (n : ℕ) (u : Term) → s ≡ Some (Instrument n) → is_some (link rs) ≡ any ts → Holds ns (at i s ks rs) → IsTerm s ks u → AreTerms rs us → Paired ns tss qs uss → Taken ns (instrument n) u ts us i s ks rs tss uss qs
  taken_instrument n (variable y) is e h (other, bare) are r = absurd (false≢true cc)
  taken_instrument n (apply g vs) is e h (other, few, below) are r = absurd (false≢true cc)
  taken_instrument n (instrument k) is e h (other, bare) are r =
      let z : n ≡ k = cc in
      record {
        patterns = ts ∷ tss;
        rows = rs ∷ qs;
        terms = us ∷ uss;
        kept = [];
        bindings = [];
        paired = row e h.3 are r;
        checks = refl;
        links = refl;
        peels = λ ps rest m w. subst (λ q. Peels (cons (instrument n) ts ∷ tss) (at i s q rs ∷ qs) (i ∷ ps) rest m) (sym bare) (subst (λ o. Peels (cons (instrument n) ts ∷ tss) (at i o no_row rs ∷ qs) (i ∷ ps) rest m) (sym is) (leaf w));
        matched = ap (λ b. joined (joined (cond b (some []) none) (matching_all ts us)) (matching_rows tss uss)) (eq-eqb n k z) ∙ joined_assoc (some []) (matching_all ts us) (matching_rows tss uss);
      }

  taken_operator : (f : ℕ) (fs : Terms) (u : Term) → s ≡ Some (Operator f) → is_some (link ks) ≡ any fs → is_some (link rs) ≡ any ts → Holds ns (at i s ks rs) → IsTerm s ks u → AreTerms rs us → Paired ns tss qs uss → Taken ns (apply f fs) u ts us i s ks rs tss uss qs
  taken_operator f fs (variable y) is d e h (other, bare) are r = absurd (false≢true cc)
  taken_operator f fs (instrument k) is d e h (other, bare) are r = absurd (false≢true cc)
  taken_operator f fs (apply g vs) is d e h (other, few, below) are r =
      let z : f ≡ g = cc in
      record {
        patterns = fs ∷ ts ∷ tss;
        rows = ks ∷ rs ∷ qs;
        terms = vs ∷ us ∷ uss;
        kept = [];
        bindings = [];
        paired = row d h.2 below (row e h.3 are r);
        checks = ap (λ l. check_of (apply f fs) ts ∷ l) (append_assoc (checks_of fs) (checks_of ts) (all_checks tss));
        links = same_links (any fs) d;
        peels = λ ps rest m w. subst (λ o. Peels (cons (apply f fs) ts ∷ tss) (at i o ks rs ∷ qs) (i ∷ ps) rest m) (sym is) (under w);
        matched = ap (λ b. joined (joined (cond b (matching_all fs vs) none) (matching_all ts us)) (matching_rows tss uss)) (eq-eqb f g z) ∙ joined_assoc (matching_all fs vs) (matching_all ts us) (matching_rows tss uss) ∙ sym (joined_nothing (joined (matching_all fs vs) (joined (matching_all ts us) (matching_rows tss uss))));
      }
    where
      same_links : (b : Bool) → is_some (link ks) ≡ b → cons_option (link ks) (cons_option (link rs) (links qs)) ≡ cons_option (cond b (link ks) None) (cons_option (link rs) (links qs))
      same_links b e = go (link ks) b e
        where
          go : (l : Option ℕ) (b : Bool) → is_some l ≡ b → cons_option l (cons_option (link rs) (links qs)) ≡ cons_option (cond b l None) (cons_option (link rs) (links qs))
          go l true e = refl
          go None false e = refl
          go (Some x) false e = absurd (false≢true cc)

  pub taken : (t u : Term) → Fits (check_of t ts) (record { symbol = s; first = link ks; next = link rs }) → Holds ns (at i s ks rs) → IsTerm s ks u → AreTerms rs us → Paired ns tss qs uss → Taken ns t u ts us i s ks rs tss uss qs
  taken (variable x) u f h is are r = taken_variable x u f.1 h is are r
  taken (instrument n) u f h is are r = taken_instrument n u f.0.0 f.1 h is are r
  taken (apply g gs) u f h is are r = taken_operator g gs u f.0.0 f.0.1 f.1 h is are r
