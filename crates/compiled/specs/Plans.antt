-- What a plan says of its rule.
use Rattle.std.specs.Prelude.{◌≡◌, ℕ, suc, ◌+◌, cond, List, [], ◌∷◌, ◌++◌}
use Rattle.fixed_vec.specs.FixedVec.{items}
use Rattle.terms.specs.declared.symbol.Symbol.TheVariants.{Instrument, Operator}
use Rattle.terms.specs.Term.{Term, variable, instrument, apply, Terms, nil, cons, symbols}
use Rattle.terms.specs.Rule.{Rule}
use Rattle.compiled.specs.declared.Check.{Check}
use Rattle.compiled.specs.declared.Piece.{Piece}
use Rattle.compiled.specs.declared.Plan.{Plan}
use Rattle.compiled.specs.declared.Source.{Source}
use Rattle.compiled.specs.declared.Source.TheVariants.{Made, Moved, Copied}
use Rattle.compiled.specs.Symbols.{wanted, any, has_arguments, parts_under, has_variable, home, plain, Narrow}

-- a check for each symbol of a row, in reading order
abbrev mutual
  pub checks_of : Terms → List Check
  checks_of nil = []
  checks_of (cons t us) = record { symbol = wanted t; has_first = has_arguments t; has_next = any us } ∷ (checks_under t ++ checks_of us)

  -- those of a term but its first
  pub checks_under : Term → List Check
  checks_under (variable x) = []
  checks_under (instrument n) = []
  checks_under (apply f ts) = checks_of ts

-- where a symbol comes from, by the parts of the left side behind its root, and by the parts before it on the right: a variable is moved at its first occurrence, and copied at the others
abbrev pub source_of : List Term → List Term → Term → Source
source_of left before (variable x) = cond (has_variable x before) (Copied (home x left)) (Moved (home x left))
source_of left before (instrument n) = Made (Instrument n)
source_of left before (apply f ts) = Made (Operator f)

-- a piece for each symbol of a row that stands behind these parts, in reading order
abbrev mutual
  pub pieces_of : List Term → List Term → Terms → List Piece
  pieces_of left before nil = []
  pieces_of left before (cons t us) = record { source = source_of left before t; has_first = has_arguments t; has_next = any us } ∷ (pieces_under left (before ++ t ∷ []) t ++ pieces_of left (before ++ t ∷ parts_under t) us)

  -- those of a term but its first
  pub pieces_under : List Term → List Term → Term → List Piece
  pieces_under left before (variable x) = []
  pieces_under left before (instrument n) = []
  pieces_under left before (apply f ts) = pieces_of left before ts

-- the numbers of the operators of a row whose first symbol has the number k, arguments first
abbrev mutual
  pub operators_of : ℕ → Terms → List ℕ
  operators_of k nil = []
  operators_of k (cons t us) = operators_in k t ++ operators_of (k + symbols t) us

  pub operators_in : ℕ → Term → List ℕ
  operators_in k (variable x) = []
  operators_in k (instrument n) = []
  operators_in k (apply f ts) = operators_of (suc k) ts ++ k ∷ []

-- those of a term but its first, whose next symbol has the number 0
abbrev pub operators_under : Term → List ℕ
operators_under (variable x) = []
operators_under (instrument n) = []
operators_under (apply f ts) = operators_of 0 ts

-- the numbers, counted from k, at which variables stand that are not among the right parts
abbrev pub dropped_from : ℕ → List Term → List Term → List ℕ
dropped_from k [] right = []
dropped_from k (variable x ∷ ts) right = cond (has_variable x right) (dropped_from (suc k) ts right) (k ∷ dropped_from (suc k) ts right)
dropped_from k (instrument n ∷ ts) right = dropped_from (suc k) ts right
dropped_from k (apply f us ∷ ts) right = dropped_from (suc k) ts right

-- the number from which a piece is copied, before others, if it is
abbrev pub copy_before : Source → List ℕ → List ℕ
copy_before (Made s) ks = ks
copy_before (Moved k) ks = ks
copy_before (Copied k) ks = k ∷ ks

-- the numbers from which pieces are copied
abbrev pub copied_in : List Piece → List ℕ
copied_in [] = []
copied_in (p ∷ ps) = copy_before p.source (copied_in ps)

-- the plan of a rule
pub record Planned (r : Rule) (p : Plan) : Type 0 where
  pub has_first : p.has_first ≡ has_arguments r.left
  pub checks : items p.checks ≡ checks_under r.left
  pub root : p.root ≡ record { source = source_of (parts_under r.left) [] r.right; has_first = has_arguments r.right; has_next = any nil }
  pub pieces : items p.pieces ≡ pieces_under (parts_under r.left) (r.right ∷ []) r.right
  pub visits : items p.visits ≡ operators_under r.right
  pub dropped : items p.dropped ≡ dropped_from 0 (parts_under r.left) (r.right ∷ parts_under r.right)
  pub copied : items p.copied ≡ copied_in (items p.pieces)
  pub before : p.before ≡ suc (plain (parts_under r.left))
  pub after : p.after ≡ plain (r.right ∷ parts_under r.right)
  pub narrow : Narrow r.right
