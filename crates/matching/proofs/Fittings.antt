-- Where a term of a pattern matches, its symbol fits; and where its symbol fits, what is left to match.
use Rattle.std.proofs.Common.{◌≡◌, ℕ, List, [], get_or, Some, Option, is_some, refl, sym, ap, ◌∙◌, subst}
use Rattle.std.proofs.Math.Option.{some}
use Rattle.terms.specs.declared.node.Node.{Node}
use Rattle.terms.specs.declared.symbol.Symbol.{Symbol}
use Rattle.terms.specs.declared.symbol.Symbol.TheVariants.{Instrument, Operator}
use Rattle.terms.specs.Nodes.{vacant}
use Rattle.terms.specs.Term.{Term, variable, instrument, apply, Terms, nil, cons}
use Rattle.rewriting.specs.Bindings.{Bindings}
use Rattle.rewriting.specs.Next.{matching, matching_all}
use Rattle.rewriting.proofs.Filling.{none_some}
use Rattle.rewriting.proofs.Matching.{joined_some, tested}
use Rattle.node_store.specs.Placed.{Placed, none as no_row, at, link, Holds, IsTerm, AreTerms}
use Rattle.compiled.specs.declared.Check.{Check}
use Rattle.compiled.specs.Symbols.{wanted, any, has_arguments}
use Rattle.compiled.specs.Plans.{checks_of}
use Rattle.matching.specs.Fitting.{FitsFront, Fits, Begins}

-- the check of a term before others
abbrev pub check_of : Term → Terms → Check
check_of t ts = record { symbol = wanted t; has_first = has_arguments t; has_next = any ts }

-- a row that matches is empty exactly if the pattern's is
any_same : (ts us : Terms) (q : Placed) (m : Bindings) → matching_all ts us ≡ some m → AreTerms q us → is_some (link q) ≡ any ts
any_same nil nil no_row m e a = refl
any_same nil nil (at i s ks us) m e a = absurd a
any_same nil (cons u us) q m e a = absurd (none_some e)
any_same (cons t ts) nil q m e a = absurd (none_some e)
any_same (cons t ts) (cons u us) no_row m e a = absurd a
any_same (cons t ts) (cons u us) (at i s ks rs) m e a = refl

front_fits : (t u : Term) (s : Option Symbol) (ks : Placed) (l : Option ℕ) (m : Bindings) → matching t u ≡ some m → IsTerm s ks u → FitsFront (wanted t) (has_arguments t) (record { symbol = s; first = link ks; next = l })
front_fits (variable x) u s ks l m e a = tt
front_fits (instrument n) (variable y) s ks l m e a = absurd (none_some e)
front_fits (instrument n) (instrument k) s ks l m e (is, bare) =
    let z : n ≡ k = (tested n k (some []) m e).0 in (is ∙ ap (λ i. Some (Instrument i)) (sym z), ap (λ q. is_some (link q)) bare)
front_fits (instrument n) (apply g us) s ks l m e a = absurd (none_some e)
front_fits (apply f ts) (variable y) s ks l m e a = absurd (none_some e)
front_fits (apply f ts) (instrument k) s ks l m e a = absurd (none_some e)
front_fits (apply f ts) (apply g us) s ks l m e (is, few, are) =
    let (z, r) = tested f g (matching_all ts us) m e in (is ∙ ap (λ i. Some (Operator i)) (sym z), any_same ts us ks m r are)

pub row_fits : (ns : List Node) (t u : Term) (ts us : Terms) (i : ℕ) (s : Option Symbol) (ks rs : Placed) (m : Bindings) → matching_all (cons t ts) (cons u us) ≡ some m → Holds ns (at i s ks rs) → AreTerms (at i s ks rs) (cons u us) → Fits (check_of t ts) (get_or ns i vacant)
row_fits ns t u ts us i s ks rs m e h a =
    let (b, c, p, q, r) = joined_some (matching t u) (matching_all ts us) m e in
    subst (Fits (check_of t ts)) (sym h.1) (front_fits t u s ks (link rs) b p a.0, any_same ts us rs c q a.1)

-- where the rows match, the first check fits, or there is neither check nor node
pub rows_begin : (ns : List Node) (ts us : Terms) (q : Placed) (m : Bindings) → matching_all ts us ≡ some m → Holds ns q → AreTerms q us → Begins ns (checks_of ts) (link q)
rows_begin ns nil nil no_row m e h a = tt
rows_begin ns nil nil (at i s ks rs) m e h a = absurd a
rows_begin ns nil (cons u us) q m e h a = absurd (none_some e)
rows_begin ns (cons t ts) nil q m e h a = absurd (none_some e)
rows_begin ns (cons t ts) (cons u us) no_row m e h a = absurd a
rows_begin ns (cons t ts) (cons u us) (at i s ks rs) m e h a = row_fits ns t u ts us i s ks rs m e h a

pub begin_same : (ns : List Node) (ts : Terms) (q : Placed) → Begins ns (checks_of ts) (link q) → is_some (link q) ≡ any ts
begin_same ns nil no_row b = refl
begin_same ns nil (at i s ks rs) b = absurd b
begin_same ns (cons t ts) no_row b = absurd b
begin_same ns (cons t ts) (at i s ks rs) b = refl
