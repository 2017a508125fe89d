-- The nodes that the parser holds, from one state to the next.
use Rattle.std.proofs.Common.{◌≡◌, ℕ, suc, ◌+◌, ◌≤◌, List, ◌∷◌, ◌++◌, length, Some, None, sym, refl, ap, ◌∙◌, append_assoc, append-nil, arith, length-append}
use Rattle.terms.specs.declared.node.Node.{Node}
use Rattle.terms.specs.Term.{Term, apply, Terms, nil, cons, symbols, symbols_in}
use Rattle.terms.specs.Nodes.{start, laid, laid_row, with_next}
use Rattle.terms.proofs.Laying.{length-laid, relaid}
use Rattle.reading.specs.Reading.{Context, top, within, and_then}
use Rattle.reader.specs.Parsing.{operator_node, linked, stack_nodes, stack_frames}

start_then : (i : ℕ) (ts : Terms) (t : Term) → start i (and_then ts t) ≡ Some i
start_then i nil t = refl
start_then i (cons u us) t = refl

pub length-linked : (i : ℕ) (ts : Terms) → length (linked i ts) ≡ symbols_in ts
length-linked i nil = refl
length-linked i (cons t ts) =
    let a = length-laid i (Some (i + symbols t)) t in
    let b = length-linked (i + symbols t) ts in
    length-append (laid i (Some (i + symbols t)) t) (linked (i + symbols t) ts) ∙ omega arith

-- the last argument, with no sibling behind it
laid_last : (i : ℕ) (ts : Terms) (t : Term) (j : ℕ) → j ≡ i + symbols_in ts → laid_row i (and_then ts t) ≡ linked i ts ++ laid j None t
laid_last i nil t j e = append-nil (laid i None t) ∙ ap (λ n. laid n None t) (omega arith)
laid_last i (cons u us) t j e =
    ap (λ l. laid i l u ++ laid_row (i + symbols u) (and_then us t)) (start_then (i + symbols u) us t)
    ∙ ap (λ l. laid i (Some (i + symbols u)) u ++ l) (laid_last (i + symbols u) us t j (omega arith))
    ∙ sym (append_assoc (laid i (Some (i + symbols u)) u) (linked (i + symbols u) us) (laid j None t))

-- an argument that another one follows
linked_push : (i : ℕ) (ts : Terms) (t : Term) (j : ℕ) → j ≡ i + symbols_in ts → linked i (and_then ts t) ≡ linked i ts ++ laid j (Some (j + symbols t)) t
linked_push i nil t j e = append-nil _ ∙ ap (λ n. laid n (Some (n + symbols t)) t) (let z : i ≡ j = omega arith in z)
linked_push i (cons u us) t j e =
    ap (λ l. laid i (Some (i + symbols u)) u ++ l) (linked_push (i + symbols u) us t j (omega arith))
    ∙ sym (append_assoc (laid i (Some (i + symbols u)) u) (linked (i + symbols u) us) (laid j (Some (j + symbols t)) t))

-- how many nodes a stack has
deeper : (f i : ℕ) (ns : List Node) (ts : Terms) → i ≡ length ns → length (ns ++ (operator_node f i ∷ linked (suc i) ts)) ≡ suc i + symbols_in ts
deeper f i ns ts e = length-append ns _ ∙ omega (arith, length-linked (suc i) ts)

pub closed_nodes : (t : Term) (f : ℕ) (ns : List Node) (ts : Terms) → (ns ++ (operator_node f (length ns) ∷ linked (suc (length ns)) ts)) ++ laid (length (ns ++ (operator_node f (length ns) ∷ linked (suc (length ns)) ts))) None t ≡ ns ++ laid (length ns) None (apply f (and_then ts t))
closed_nodes t f ns ts =
    let i = length ns in
    let j = length (ns ++ (operator_node f i ∷ linked (suc i) ts)) in
    append_assoc ns _ (laid j None t)
    ∙ ap (λ l. ns ++ (operator_node f i ∷ l)) (sym (laid_last (suc i) ts t j (deeper f i ns ts refl)))
    ∙ ap (λ l. ns ++ (record { symbol = (operator_node f i).symbol; first = l; next = None } ∷ laid_row (suc i) (and_then ts t))) (sym (start_then (suc i) ts t))

pub continued_nodes : (t : Term) (f : ℕ) (ns : List Node) (ts : Terms) (q : ℕ) → q ≡ length ((ns ++ (operator_node f (length ns) ∷ linked (suc (length ns)) ts)) ++ laid (length (ns ++ (operator_node f (length ns) ∷ linked (suc (length ns)) ts))) None t)
    → with_next ((ns ++ (operator_node f (length ns) ∷ linked (suc (length ns)) ts)) ++ laid (length (ns ++ (operator_node f (length ns) ∷ linked (suc (length ns)) ts))) None t) (length (ns ++ (operator_node f (length ns) ∷ linked (suc (length ns)) ts))) q
    ≡ ns ++ (operator_node f (length ns) ∷ linked (suc (length ns)) (and_then ts t))
continued_nodes t f ns ts q e =
    let i = length ns in
    let pre = ns ++ (operator_node f i ∷ linked (suc i) ts) in
    let j = length pre in
    let last : q ≡ j + symbols t = e ∙ length-append pre (laid j None t) ∙ ap (λ n. j + n) (length-laid j None t) in
    relaid pre j q t refl
    ∙ ap (λ x. pre ++ laid j (Some x) t) last
    ∙ append_assoc ns _ (laid j (Some (j + symbols t)) t)
    ∙ ap (λ l. ns ++ (operator_node f i ∷ l)) (sym (linked_push (suc i) ts t j (deeper f i ns ts refl)))

-- each frame has its node
pub fewer_frames : (k : Context) → length (stack_frames k) ≤ length (stack_nodes k)
fewer_frames top = omega arith
fewer_frames (within f a ts n k) =
    let ih = fewer_frames k in
    omega (arith, length-append (stack_nodes k) (operator_node f (length (stack_nodes k)) ∷ linked (suc (length (stack_nodes k))) ts))
