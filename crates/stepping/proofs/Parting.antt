-- Taking apart what a left side matched.
use Rattle.std.proofs.Common.{◌≡◌, ℕ, ◌≤◌, List, [], ◌∷◌, ◌++◌, length, Some, None, Option, sym, refl, ap, ◌∙◌, subst, append_assoc, ⊎_elim, ◌⊎◌, arith}
use Rattle.std.proofs.lemmas.List.{length-set}
use Rattle.terms.specs.declared.symbol.Symbol.{Symbol}
use Rattle.terms.specs.declared.symbol.Symbol.TheVariants.{Instrument, Operator}
use Rattle.terms.specs.Term.{Terms}
use Rattle.rewriting.specs.Bindings.{Bindings}
use Rattle.node_store.specs.Memory.{Memory, freed_at}
use Rattle.node_store.specs.Placed.{Placed, none, at, Held}
use Rattle.node_store.specs.Work.{Work}
use Rattle.node_store.proofs.Rows.{without_none, to_front, from_front, node_freed, row_ended}
use Rattle.compiled.specs.declared.Check.{Check}
use Rattle.compiled.specs.Plans.{checks_of}
use Rattle.matching.specs.Peeling.{Peels, done, end, bind, leaf, under}
use Rattle.matching.proofs.Pairings.{all_checks}
use Rattle.stepping.specs.Parting.{parted_at, parted}

-- these rows are loose afterwards
pub record Loose (m : Memory) (h : Held) (qs : List Placed) (k : Memory) : Type 0 where
  pub gone : Placed
  pub work : Work k h qs gone
  pub long : length k.nodes ≡ length m.nodes

parted_long : (m : Memory) (s : Option Symbol) (p : ℕ) → length (parted_at m s p).nodes ≡ length m.nodes
parted_long m None p = length-set m.nodes p _
parted_long m (Some s) p = length-set m.nodes p _

pub taken_apart : (m : Memory) (h : Held) (pss : List Terms) (qs : List Placed) (ps : List ℕ) (kept : List Placed) (v : Bindings) (others : List Placed) (g : Placed) → Peels pss qs ps kept v → length m.nodes ≤ 65536 → Work m h (qs ++ others) g → Loose m h (kept ++ others) (parted m (all_checks pss) ps)
taken_apart m h pss qs ps kept v others g done few w = record { gone = g; work = w; long = refl }
taken_apart m h pss qs ps kept v others g (end {pss = pss′} {qs = qs′} p) few w = taken_apart m h pss′ qs′ ps kept v others g p few (without_none m h (qs′ ++ others) g w)
taken_apart m h pss qs ps kept v others g (bind {x = x} {q = q} {s = s} {ks = ks} {us = us} {ts = ts} {pss = pss′} {qs = qs′} {ps = ps′} {kept = kept′} {m = v′} i p) few w =
    let l = parted_long m None q in
    let e = from_front (parted_at m None q) h (us ∷ qs′) others (at q s ks none) g (row_ended m h q s ks us (qs′ ++ others) g w) in
    let r = taken_apart (parted_at m None q) h (ts ∷ pss′) (us ∷ qs′) ps′ kept′ v′ (at q s ks none ∷ others) g p (omega arith) e in
    record { gone = r.gone; work = to_front (parted (parted_at m None q) (all_checks (ts ∷ pss′)) ps′) h kept′ others (at q s ks none) r.gone r.work; long = r.long ∙ l }
taken_apart m h pss qs ps kept v others g (leaf {n = n} {q = q} {us = us} {ts = ts} {pss = pss′} {qs = qs′} {ps = ps′} p) few w =
    let l = parted_long m (Some (Instrument n)) q in
    let e = without_none (freed_at m q) h (us ∷ (qs′ ++ others)) (at q None none g) (node_freed m h q (Some (Instrument n)) none us (qs′ ++ others) g few w) in
    let r = taken_apart (freed_at m q) h (ts ∷ pss′) (us ∷ qs′) ps′ kept v others (at q None none g) p (omega arith) e in
    record { gone = r.gone; work = r.work; long = r.long ∙ l }
taken_apart m h pss qs ps kept v others g (under {f = f} {q = q} {ks = ks} {us = us} {fs = fs} {ts = ts} {pss = pss′} {qs = qs′} {ps = ps′} p) few w =
    let l = parted_long m (Some (Operator f)) q in
    let e = node_freed m h q (Some (Operator f)) ks us (qs′ ++ others) g few w in
    let r = taken_apart (freed_at m q) h (fs ∷ ts ∷ pss′) (ks ∷ us ∷ qs′) ps′ kept v others (at q None none g) p (omega arith) e in
    let a : checks_of fs ++ (checks_of ts ++ all_checks pss′) ≡ (checks_of fs ++ checks_of ts) ++ all_checks pss′ = sym (append_assoc (checks_of fs) (checks_of ts) (all_checks pss′)) in
    subst (λ cs. Loose m h (kept ++ others) (parted (freed_at m q) cs ps′)) a (record { gone = r.gone; work = r.work; long = r.long ∙ l })

-- one more place is gone through
pub parted_next : (m k x : Memory) (c : Check) (p : ℕ) (s : Option Symbol) (cs ds : List Check) (ps qs : List ℕ) → cs ≡ c ∷ ds → ps ≡ p ∷ qs → c.symbol ≡ s → k ≡ parted_at m s p → parted m cs ps ≡ x → parted k ds qs ≡ x
parted_next m k x c p s cs ds ps qs e f g n a = (λ i. parted ((n ∙ ap (λ y. parted_at m y p) (sym g)) i) ds qs) ∙ sym (λ i. parted m (e i) (f i)) ∙ a

parted_no_place : (m : Memory) (cs : List Check) → parted m cs [] ≡ m
parted_no_place m [] = refl
parted_no_place m (c ∷ cs) = refl

pub parted_end : (m x : Memory) (cs : List Check) (ps : List ℕ) → (cs ≡ []) ⊎ (ps ≡ []) → parted m cs ps ≡ x → m ≡ x
parted_end m x cs ps o a = ⊎_elim (λ e. sym (ap (λ l. parted m l ps) e) ∙ a) (λ e. sym (ap (λ l. parted m cs l) e ∙ parted_no_place m cs) ∙ a) o
