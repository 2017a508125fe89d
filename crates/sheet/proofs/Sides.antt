-- The nodes of a side and its term.
use Rattle.std.proofs.Common.{◌≡◌, ℕ, zero, suc, ◌+◌, ◌<◌, ◌≤◌, List, [], ◌∷◌, ◌++◌, length, Some, None, Option, sym, ap, ◌∙◌, ⊎_elim, arith}
use mathlib.Core.Logic.{∥∥₁_elim}
use base.Stored.{Coded-set, coded_list}
use Rattle.std.proofs.lemmas.Bool.{cases_lt}
use Rattle.terms.specs.declared.symbol.Symbol.{Symbol}
use Rattle.terms.specs.declared.symbol.Symbol.TheVariants.{Variable, Instrument, Operator}
use Rattle.terms.specs.declared.node.Node.{Node}
use Rattle.terms.specs.declared.layout.Layout.{Layout}
use Rattle.terms.specs.contracts.node.Node as node_type
use Rattle.terms.specs.Term.{Term, instrument, Terms, how_many, symbols}
use Rattle.terms.specs.View.{Stands}
use Rattle.terms.specs.Nodes.{node_answers, laid}
use Rattle.terms.specs.Layout.{in_use, LaysOut, Pushed}
use Rattle.terms.specs.Rule.{levels}
use Rattle.terms.specs.Off.{term_with, row_with, read_off, arguments_off}
use Rattle.terms.proofs.Nodes.{argument_past}
use Rattle.terms.proofs.Laying.{Narrow, AllNarrow, laid_stands, length-laid}
use Rattle.terms.proofs.Offs.{off_stands}
use Rattle.sheet.specs.Terms.{term_in, LaidSide}
use Rattle.sheet.specs.Sides.{side_of, side_answers}
use Rattle.sheet.specs.declared.side.Side.{Side}

-- two lists of nodes are equal in at most one way
nodes_set : IsSet (List Node)
nodes_set = Coded-set (coded_list (node_type.the_row).coded)

-- the nodes in use are those of the term
pub side_laid : (s : Side) → LaysOut s.nodes (side_of s)
side_laid s = ∥∥₁_elim s.laid.are_laid (nodes_set _ _) (λ e. e)

-- what is read off nodes has no operator over more than three arguments
narrow_with : (s : Option Symbol) (ts : Terms) → how_many ts ≤ 3 → AllNarrow ts → Narrow (term_with s ts)
narrow_with None ts few h = tt
narrow_with (Some (Variable x)) ts few h = tt
narrow_with (Some (Instrument m)) ts few h = tt
narrow_with (Some (Operator f)) ts few h = (few, h)

row_narrow : (a : Option ℕ) (term : ℕ → Term) (ts : Terms) → ((q : ℕ) → Narrow (term q)) → AllNarrow ts → AllNarrow (row_with a term ts)
row_narrow None term ts one h = tt
row_narrow (Some q) term ts one h = (one q, h)

row_few : (a : Option ℕ) (term : ℕ → Term) (ts : Terms) → how_many (row_with a term ts) ≤ suc (how_many ts)
row_few None term ts = omega arith
row_few (Some q) term ts = omega arith

module _ (ns : List Node) where
  few_off : (n p k : ℕ) → k ≤ 3 → k + how_many (arguments_off n (node_answers ns) p k) ≤ 3
  few_off zero p k h = omega arith
  few_off (suc n) p k h =
      let v = node_answers ns in
      let term : ℕ → Term = λ q. read_off n v q in
      ⊎_elim
      (λ (l : k < 3). omega (arith, few_off n p (suc k) (omega arith), row_few (v.argument p k) term (arguments_off n v p (suc k))))
      (λ (l : 3 ≤ k). omega (arith, ap (λ a. how_many (row_with a term (arguments_off n v p (suc k)))) (argument_past ns p k l)))
      (cases_lt k 3)

  mutual
    off_narrow : (n p : ℕ) → Narrow (read_off n (node_answers ns) p)
    off_narrow zero p = tt
    off_narrow (suc n) p = narrow_with ((node_answers ns).symbol p) (arguments_off n (node_answers ns) p 0) (omega (arith, few_off n p 0 (omega arith))) (arguments_narrow n p 0)

    arguments_narrow : (n p k : ℕ) → AllNarrow (arguments_off n (node_answers ns) p k)
    arguments_narrow zero p k = tt
    arguments_narrow (suc n) p k = row_narrow ((node_answers ns).argument p k) (λ q. read_off n (node_answers ns) q) (arguments_off n (node_answers ns) p (suc k)) (λ q. off_narrow n q) (arguments_narrow n p (suc k))

pub side_narrow : (s : Side) → Narrow (side_of s)
unfolding term_in
side_narrow s = off_narrow (in_use s.nodes) 64 0

-- the term of a side stands at its first node
pub side_stands : (s : Side) → Stands (side_answers s) 0 (side_of s)
side_stands s = laid_stands (in_use s.nodes) (side_of s) (side_narrow s) (side_laid s)

-- the layout of a term of at most 32 symbols holds it
pub held : {N : ℕ} (l : Layout N) (t : Term) → Narrow t → symbols t ≤ 32 → LaysOut l t → term_in l ≡ t
unfolding term_in
held l t h few e = off_stands (node_answers (in_use l)) 0 t 64 (laid_stands (in_use l) t h e) (omega arith)

-- and if it has at most 16 levels, a side can be made of it
pub laid_side : {N : ℕ} (l : Layout N) (t : Term) → Narrow t → symbols t ≤ 32 → levels t ≤ 16 → LaysOut l t → LaidSide l
laid_side l t h few low e =
    let same = held l t h few e in
    record { are_laid = ∣ e ∙ ap (laid 0 None) (sym same) ∣₁; counted = ap length e ∙ length-laid 0 None t ∙ ap symbols (sym same); few = omega (arith, ap levels same) }

-- a layout of one instrument
pub laid_instrument : {N : ℕ} (l : Layout N) (before : List Node) (n : Node) (p : Option ℕ) → before ≡ [] → n ≡ record { symbol = Some (Instrument 1); first = None; next = None } → 0 < N → Pushed N before n (in_use l) p → LaidSide l
laid_instrument l before n None none is room (same, full) = absurd (omega (arith, ap length none))
laid_instrument l before n (Some p) none is room (pushed, _, _) = laid_side l (instrument 1) tt (omega arith) (omega arith) (pushed ∙ ap (λ ns. ns ++ n ∷ []) none ∙ ap (λ x. x ∷ []) is)
