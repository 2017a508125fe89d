-- A term that is laid out in reading order stands at the place of its first node.
use Rattle.std.proofs.Common.{◌≡◌, ℕ, zero, suc, ◌+◌, ◌<◌, ◌≤◌, List, [], ◌∷◌, ◌++◌, length, get_or, set, Some, None, Option, sym, refl, ap, ◌∙◌, ⊎_elim, append_assoc, append-nil, arith, length-append}
use Rattle.std.proofs.lemmas.List.{get_or_at, get_or-append_right, set_at}
use Rattle.std.proofs.lemmas.Bool.{cases_lt}
use Rattle.terms.specs.declared.node.Node.{Node}
use Rattle.terms.specs.Term.{Term, variable, instrument, apply, Terms, nil, cons, how_many, symbols, symbols_in}
use Rattle.terms.specs.Signature.{Sig, Declared}
use Rattle.terms.specs.Ticket.{TermOf, TermsOf, Ticket}
use Rattle.terms.specs.View.{Stands, StandFrom}
use Rattle.terms.specs.Nodes.{vacant, along, node_answers, start, laid, laid_row, with_next}
use Rattle.terms.proofs.Nodes.{argument_within, argument_past}
use Rattle.terms.proofs.Readable.{ticket_term}

-- as many nodes as symbols
mutual
  pub length-laid : (i : ℕ) (l : Option ℕ) (t : Term) → length (laid i l t) ≡ symbols t
  length-laid i l (variable x) = refl
  length-laid i l (instrument n) = refl
  length-laid i l (apply f ts) = ap suc (length-laid_row (suc i) ts)

  pub length-laid_row : (i : ℕ) (ts : Terms) → length (laid_row i ts) ≡ symbols_in ts
  length-laid_row i nil = refl
  length-laid_row i (cons t ts) =
      let a = length-laid i (start (i + symbols t) ts) t in
      let b = length-laid_row (i + symbols t) ts in
      length-append (laid i (start (i + symbols t) ts) t) (laid_row (i + symbols t) ts) ∙ omega arith

-- no operator has more than three arguments
abbrev mutual
  pub Narrow : Term → Type 0
  Narrow (variable x) = Unit {0}
  Narrow (instrument n) = Unit {0}
  Narrow (apply f ts) = (how_many ts ≤ 3) × AllNarrow ts

  pub AllNarrow : Terms → Type 0
  AllNarrow nil = Unit {0}
  AllNarrow (cons t ts) = Narrow t × AllNarrow ts

mutual
  pub term_narrow : (sig : Sig) → Declared sig → (t : Term) → TermOf sig t → Narrow t
  term_narrow sig d (variable x) h = tt
  term_narrow sig d (instrument n) h = tt
  term_narrow sig d (apply f ts) h = (omega (arith, h.1, d.are_ranked f h.0), terms_narrow sig d ts h.2)

  terms_narrow : (sig : Sig) → Declared sig → (ts : Terms) → TermsOf sig ts → AllNarrow ts
  terms_narrow sig d nil h = tt
  terms_narrow sig d (cons t ts) h = (term_narrow sig d t h.0, terms_narrow sig d ts h.1)

pub ticket_narrow : (sig : Sig) → Declared sig → (t : Term) → Ticket sig t → Narrow t
ticket_narrow sig d t h = term_narrow sig d t (ticket_term sig t h)

-- one sibling further
along_suc : (ns : List Node) (l : Option ℕ) (k q : ℕ) → along ns l k ≡ Some q → along ns l (suc k) ≡ (get_or ns q vacant).next
along_suc ns None zero q e = cc
along_suc ns (Some p) zero q e = let h : p ≡ q = cc in ap (λ n. (get_or ns n vacant).next) h
along_suc ns None (suc k) q e = cc
along_suc ns (Some p) (suc k) q e = along_suc ns (get_or ns p vacant).next k q e

root_next : (i : ℕ) (l : Option ℕ) (t : Term) (rest : List Node) → (get_or (laid i l t ++ rest) 0 vacant).next ≡ l
root_next i l (variable x) rest = refl
root_next i l (instrument n) rest = refl
root_next i l (apply f ts) rest = refl

-- the nodes of a part stand at i, between what stands before and behind
abbrev At : List Node → ℕ → List Node → Type 0
At ns i part = (pre : List Node) × (post : List Node) × (ns ≡ pre ++ (part ++ post)) × (length pre ≡ i)

node_at : (ns : List Node) (i : ℕ) (n : Node) (part : List Node) → At ns i (n ∷ part) → get_or ns i vacant ≡ n
node_at ns i n part (pre, post, e, h) = ap (λ l. get_or l i vacant) e ∙ get_or_at pre n (part ++ post) vacant i h

at_tail : (ns : List Node) (i : ℕ) (n : Node) (part : List Node) → At ns i (n ∷ part) → At ns (suc i) part
at_tail ns i n part (pre, post, e, h) = (pre ++ n ∷ [], post, e ∙ sym (append_assoc pre (n ∷ []) (part ++ post)), length-append pre (n ∷ []) ∙ omega arith)

at_front : (ns : List Node) (i : ℕ) (a b : List Node) → At ns i (a ++ b) → At ns i a
at_front ns i a b (pre, post, e, h) = (pre, b ++ post, e ∙ ap (λ l. pre ++ l) (append_assoc a b post), h)

at_back : (ns : List Node) (i j : ℕ) (a b : List Node) → At ns i (a ++ b) → j ≡ i + length a → At ns j b
at_back ns i j a b (pre, post, e, h) k = (pre ++ a, post, e ∙ ap (λ l. pre ++ l) (append_assoc a b post) ∙ sym (append_assoc pre a (b ++ post)), length-append pre a ∙ omega arith)

next_at : (ns : List Node) (i : ℕ) (l : Option ℕ) (t : Term) → At ns i (laid i l t) → (get_or ns i vacant).next ≡ l
next_at ns i l t (pre, post, e, h) =
    ap (λ m. (get_or m i vacant).next) e ∙ ap (λ (n : Node). n.next) (get_or-append_right pre (laid i l t ++ post) i i vacant h (omega arith))
    ∙ ap (λ k. (get_or (laid i l t ++ post) k vacant).next) (omega arith) ∙ root_next i l t post

mutual
  pub stands_laid : (ns : List Node) (i : ℕ) (l : Option ℕ) (t : Term) → Narrow t → At ns i (laid i l t) → Stands (node_answers ns) i t
  stands_laid ns i l (variable x) h a = let e = node_at ns i _ [] a in (ap (λ (n : Node). n.symbol) e, ap (λ (n : Node). n.first) e)
  stands_laid ns i l (instrument x) h a = let e = node_at ns i _ [] a in (ap (λ (n : Node). n.symbol) e, ap (λ (n : Node). n.first) e)
  stands_laid ns i l (apply f ts) h a =
      let e = node_at ns i _ (laid_row (suc i) ts) a in
      (ap (λ (n : Node). n.symbol) e, row_laid ns i 0 (suc i) ts h.1 (omega (arith, h.0)) (ap (λ (n : Node). n.first) e) (at_tail ns i _ (laid_row (suc i) ts) a))

  row_laid : (ns : List Node) (p k j : ℕ) (ts : Terms) → AllNarrow ts → k + how_many ts ≤ 3 → along ns (get_or ns p vacant).first k ≡ start j ts → At ns j (laid_row j ts) → StandFrom (node_answers ns) p k ts
  row_laid ns p k j nil h few e a = ⊎_elim (λ (m : k < 3). argument_within ns p k m ∙ e) (λ (m : 3 ≤ k). argument_past ns p k m) (cases_lt k 3)
  row_laid ns p k j (cons t ts) h few e a =
      let here = at_front ns j (laid j (start (j + symbols t) ts) t) (laid_row (j + symbols t) ts) a in (
        j,
        argument_within ns p k (omega arith) ∙ e,
        stands_laid ns j (start (j + symbols t) ts) t h.0 here,
        row_laid ns p (suc k) (j + symbols t) ts h.1 (omega arith) (along_suc ns (get_or ns p vacant).first k j e ∙ next_at ns j (start (j + symbols t) ts) t here)
            (at_back ns j (j + symbols t) (laid j (start (j + symbols t) ts) t) (laid_row (j + symbols t) ts) a (omega (arith, length-laid j (start (j + symbols t) ts) t))),
      )

-- a whole layout
pub laid_stands : (ns : List Node) (t : Term) → Narrow t → ns ≡ laid 0 None t → Stands (node_answers ns) 0 t
laid_stands ns t h e = stands_laid ns 0 None t h ([], [], e ∙ sym (append-nil (laid 0 None t)), refl)

-- linking the root of what is laid out last
rooted : (pre : List Node) (j q : ℕ) (n : Node) (rest : List Node) → length pre ≡ j → with_next (pre ++ n ∷ rest) j q ≡ pre ++ (record { symbol = n.symbol; first = n.first; next = Some q } ∷ rest)
rooted pre j q n rest e =
    ap (λ (x : Node). set (pre ++ n ∷ rest) j (record { symbol = x.symbol; first = x.first; next = Some q })) (get_or_at pre n rest vacant j e)
    ∙ set_at pre n rest _ j e

pub relaid : (pre : List Node) (j q : ℕ) (t : Term) → length pre ≡ j → with_next (pre ++ laid j None t) j q ≡ pre ++ laid j (Some q) t
relaid pre j q (variable x) e = rooted pre j q _ [] e
relaid pre j q (instrument n) e = rooted pre j q _ [] e
relaid pre j q (apply f ts) e = rooted pre j q _ (laid_row (suc j) ts) e
