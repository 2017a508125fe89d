-- Terms in nodes: each node has its symbol, the place of its first argument and the place of its next sibling.
use Rattle.std.specs.Prelude.{ℕ, zero, suc, ◌+◌, cond, List, [], ◌∷◌, ◌++◌, Some, None, Option, nat_lt, slice_index_or, slice_set}
use Rattle.terms.specs.declared.symbol.Symbol.TheVariants.{Variable, Instrument, Operator}
use Rattle.terms.specs.declared.node.Node.{Node}
use Rattle.terms.specs.Term.{Term, variable, instrument, apply, Terms, nil, cons, symbols}
use Rattle.terms.specs.View.{Answers}

abbrev pub vacant : Node
vacant = record { symbol = None; first = None; next = None }

-- so many siblings along from a link
abbrev pub along : List Node → Option ℕ → ℕ → Option ℕ
along ns l zero = l
along ns None (suc n) = None
along ns (Some q) (suc n) = along ns (slice_index_or ns q vacant).next n

-- what nodes answer as a view
abbrev pub node_answers : List Node → Answers
node_answers ns = record { symbol = λ p. (slice_index_or ns p vacant).symbol; argument = λ p n. cond (nat_lt n 3) (along ns (slice_index_or ns p vacant).first n) None }

-- the place of the first term of a row that begins at i, if it has one
abbrev pub start : ℕ → Terms → Option ℕ
start i nil = None
start i (cons t ts) = Some i

-- the nodes of a term in reading order, from the place i on; the next sibling of its root is at l
abbrev mutual
  pub laid : ℕ → Option ℕ → Term → List Node
  laid i l (variable x) = record { symbol = Some (Variable x); first = None; next = l } ∷ []
  laid i l (instrument n) = record { symbol = Some (Instrument n); first = None; next = l } ∷ []
  laid i l (apply f ts) = record { symbol = Some (Operator f); first = start (suc i) ts; next = l } ∷ laid_row (suc i) ts

  pub laid_row : ℕ → Terms → List Node
  laid_row i nil = []
  laid_row i (cons t ts) = laid i (start (i + symbols t) ts) t ++ laid_row (i + symbols t) ts

-- the nodes with another next sibling for one of them
abbrev pub with_next : List Node → ℕ → ℕ → List Node
with_next ns p q = slice_set ns p (record { symbol = (slice_index_or ns p vacant).symbol; first = (slice_index_or ns p vacant).first; next = Some q })
