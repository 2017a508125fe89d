-- Rules, as they are read and stored.
use Rattle.std.proofs.Common.{◌≡◌, ℕ, ltb, ◌+◌, ◌<◌, List, [], ◌∷◌, ◌++◌, length, length-append, cond, None, Ok, Err, Option, refl, ap, ◌∙◌, arith}
use Rattle.std.specs.List.{AllByRecursion}
use Rattle.terms.specs.declared.layout.Layout.{Layout}
use Rattle.terms.specs.Term.{Term}
use Rattle.terms.specs.Rule.{Rule, RuleOf}
use Rattle.terms.specs.Signature.{Sig}
use Rattle.terms.specs.Layout.{LaysOut}
use Rattle.terms.proofs.Laying.{term_narrow}
use Rattle.terms.specs.declared.node.Node.{Node}
use Rattle.terms.specs.Nodes.{laid}
use Rattle.reading.specs.declared.token.At.{At}
use Rattle.reading.specs.declared.token.Mark.TheVariants.{Equals, LineEnd}
use Rattle.reading.specs.declared.fault.SheetFault.TheVariants.{Text}
use Rattle.reading.specs.Tokens.{Tok}
use Rattle.reading.specs.Reading.{top, wants, has}
use Rattle.sheet.specs.Terms.{LaidSide, term_in}
use Rattle.sheet.specs.declared.side.Side.{Side as Stored}
use Rattle.sheet.specs.Rules.{rule_between}
use Rattle.sheet.proofs.Sides.{held, laid_side}
use Rattle.sheet_reading.specs.Values.{Grid}
use Rattle.sheet_reading.specs.Sheet.{limits, SideWithin}
use Rattle.sheet_reading.specs.Sides.{Hand as Side, on_left, on_right}
use Rattle.sheet_reading.specs.Reading.{in_rule, in_side, is_mark, behind_side}
use Rattle.sheet_reading.proofs.Goods.{Good}
use Rattle.lexer.specs.declared.token.Lexer.{Lexer}
use Rattle.terms.specs.Layout.{in_use}
use Rattle.terms.specs.Substitution.{occurrences}
use Rattle.reading.specs.declared.fault.TextFault.TheVariants.{Unexpected}
use Rattle.sheet_reading.specs.Reading.{rule_end}
use Rattle.sheet_reader.specs.declared.side.Room.{Room}
use Rattle.sheet_reader.specs.declared.side.SideReader.{SideReader}
use Rattle.sheet_reader.specs.declared.side.Whole.{Whole}
use Rattle.sheet_reader.specs.Progress.{Reached, Wants, EndsEarly, misplaced}
use Rattle.sheet_reader.specs.Sides.{on_the_left, Fits, ReadsTerm}
use Rattle.sheet_reader.specs.Rules.{outermost, end_mark, ReadsSide}
use Rattle.sheet_reader.proofs.Progress.{each_token}

-- the last of some things that all have a property
last_has : {A : Type 0} (P : A → Type 0) (xs : List A) (y : A) → AllByRecursion P (xs ++ y ∷ []) → P y
last_has P [] y h = h.0
last_has P (x ∷ xs) y h = last_has P xs y h.1

-- a rule was read behind others: what is known of it
module _ (sig : Sig) (grid : Grid) (rules : List Rule) (r : Rule) (g : Good (in_rule sig grid (rules ++ r ∷ []) on_left (wants top))) where
  pub is_rule : RuleOf sig r
  is_rule = last_has (RuleOf sig) rules r g.shaped.lawful

  sides_within : SideWithin limits r.left × SideWithin limits r.right
  sides_within = last_has (λ q. SideWithin limits q.left × SideWithin limits q.right) rules r g.within.small_sides

  pub few_before : length rules < 32
  few_before = omega (arith, g.within.few_rules, length-append rules (r ∷ []))

  -- its sides can be made of the layouts that hold them
  module _ {N : ℕ} (l : Layout N) where
    pub left_laid : LaysOut l r.left → LaidSide l
    left_laid e = let s = sides_within in laid_side l r.left (term_narrow sig g.shaped.declared r.left is_rule.left_term) s.0.0 s.0.1 e

    pub right_laid : LaysOut l r.right → LaidSide l
    right_laid e = let s = sides_within in laid_side l r.right (term_narrow sig g.shaped.declared r.right is_rule.right_term) s.1.0 s.1.1 e

    -- and these hold them
    pub left_held : LaysOut l r.left → term_in l ≡ r.left
    left_held e = let s = sides_within in held l r.left (term_narrow sig g.shaped.declared r.left is_rule.left_term) s.0.0 e

    pub right_held : LaysOut l r.right → term_in l ≡ r.right
    right_held e = let s = sides_within in held l r.right (term_narrow sig g.shaped.declared r.right is_rule.right_term) s.1.0 e

  -- and sides that are made of these stand for it
  pub stored : (l m : Layout 32) (left right : Stored) → LaysOut l r.left → LaysOut m r.right → term_in left.nodes ≡ term_in l → term_in right.nodes ≡ term_in m → rule_between left right ≡ r
  stored l m left right e q a b =
      let x = a ∙ left_held l e in
      let y = b ∙ right_held m q in
      λ i. record { left = x i; right = y i }

-- whole sides

-- nodes laid out behind none
only_laid : (before after : List Node) (t : Term) → length before ≡ 0 → after ≡ before ++ laid (length before) None t → after ≡ laid 0 None t
only_laid [] after t none e = e
only_laid (n ∷ ns) after t none e = absurd (omega (arith, none))

-- what may not stand behind a whole side
behind_whole : (sig : Sig) (grid : Grid) (rules : List Rule) (d : Side) (t : Term) (bare : Option At) (at : At) (k : Tok) → in_side limits sig grid rules d (has t bare top) k at ≡ Err (Text (misplaced bare k at))
behind_whole sig grid rules d t bare at k =
    each_token (λ j. in_side limits sig grid rules d (has t bare top) j at ≡ Err (Text (misplaced bare j at))) (λ s. refl) (λ s. refl) (λ s. refl) (λ x. refl) (λ b. refl) refl refl refl refl refl refl refl k

-- the mark behind a side ends it
pub side_ends : (sig : Sig) (grid : Grid) (rules : List Rule) (d : Side) (t : Term) (bare : Option At) → Wants (in_rule sig grid rules d (has t bare top)) bare (end_mark d) (behind_side sig grid rules d t)
side_ends sig grid rules on_left t bare at k = ap (cond (is_mark Equals k) (Ok (behind_side sig grid rules on_left t))) (behind_whole sig grid rules on_left t bare at k)
side_ends sig grid rules (on_right l) t bare at k = ap (cond (is_mark LineEnd k) (Ok (behind_side sig grid rules (on_right l) t))) (behind_whole sig grid rules (on_right l) t bare at k)

-- the reader behind a side
module _ (b : List ℕ) (sig : Sig) (grid : Grid) (rules : List Rule) (d : Side) (room : Room) (before r : SideReader) (whole : Whole) (l : Lexer) where
  -- the text must not end here
  pub early : (t : Term) (bare : Option At) → EndsEarly (in_rule sig grid rules d (has t bare top))
  early t bare at = early_on d where
    early_on : (h : Side) → rule_end sig grid rules h (has t bare top) at ≡ Err (Text (Unexpected at))
    early_on on_left = refl
    early_on (on_right q) = refl

  pub side_read : (m : Lexer) → Fits before room (outermost sig grid rules d) → (z : ReadsTerm b before room (outermost sig grid rules d) whole r l) → Reached b (behind_side sig grid rules d z.term) m → ReadsSide b before (outermost sig grid rules d) r m
  side_read m f z there = record {
    side = z.term;
    goes_on = there;
    nodes = only_laid (in_use before.nodes) (in_use r.nodes) z.term f.nodes z.nodes;
    signature = z.keeps.signature;
    marked = λ x few. z.keeps.marked x few ∙ ap (λ n. ltb 0 n) (plain d x z.term);
  } where
    plain : (h : Side) (x : ℕ) (t : Term) → on_the_left h (λ y. occurrences y t + 0) x ≡ on_the_left h (λ y. occurrences y t) x
    plain on_left x t = omega arith
    plain (on_right q) x t = refl
