-- The tokens read so far begin the text of some sheet.
use Rattle.std.proofs.Common.{◌≡◌, ℕ, suc, ◌+◌, ◌<◌, ◌≤◌, List, [], ◌∷◌, ◌++◌, map, length, take, drop, sym, refl, ap, ◌∙◌, subst, append_assoc, append-nil, arith}
use Rattle.std.proofs.lemmas.List.{length-map, length_push, map_push, length-drop, length-take-le, map-append, take-append-drop}
use Rattle.terms.specs.Rule.{Rule}
use Rattle.terms.specs.Signature.{Op, Sig, Declared}
use Rattle.terms.specs.Text.{text_of}
use Rattle.terms.proofs.Signatures.{declared_push}
use Rattle.reading.specs.declared.token.Mark.TheVariants.{Equals, Blank, LineEnd}
use Rattle.reading.specs.declared.heading.Stage.TheVariants.{WantsName, HasName, WantsCount, HasCount, Done}
use Rattle.reading.specs.Tokens.{Tok, a_name, a_mark, tokens}
use Rattle.reading.specs.Reading.{State}
use Rattle.reading.specs.Heading.{Head}
use Rattle.reading.proofs.Lines.{follow, line, name_tok, count_tok, heading_tokens, blanked, spread, spaced, spaced_push, spaced_end}
use Rattle.reading.proofs.States.{state_tokens}
use Rattle.sheet_reading.specs.Values.{Value, Grid, LineIn, GridIn}
use Rattle.sheet_reading.specs.Sheet.{Sheet, SheetShaped}
use Rattle.sheet_reading.specs.Sides.{Hand, on_left, on_right}
use Rattle.sheet_reading.specs.Reading.{Stand, in_heading, wants_value, has_value, has_word, in_rule}
use Rattle.sheet_reading.proofs.Stands.{value_tok, grid_tokens, grid_append, front_tokens, the_word, sheet_tokens, sheet_of, before_side, stand_tokens}
use Rattle.reading.proofs.Heads.{head_tokens, Operators, HeadGood}
use Rattle.sheet_reading.proofs.Ranges.{grid_joined, completed, full_grid}
use Rattle.sheet_reading.proofs.Goods.{Valued, HandGood, Good}
use Rattle.sheet_reading.proofs.Ruling.{shaped_push, sheet_push}
use Rattle.sheet_reading.proofs.Fresh.{fresh}
use Rattle.sheet_reading.proofs.SideFacts.{LeftShaped}
use Rattle.sheet_reading.proofs.SideStates.{Begun as SideBegun}
use Rattle.sheet_reading.proofs.Written.{tokens_sheet}
use Rattle.sheet_reading.specs.Laws.{Begins}
use Rattle.sheet_reading.proofs.SideCompleting.{completes}

-- tokens that begin others

abbrev Fronts : List Tok → List Tok → Type 0
Fronts ks ls = (rest : List Tok) × (ls ≡ ks ++ rest)

fronts_whole : (ks : List Tok) → Fronts ks ks
fronts_whole ks = ([], sym (append-nil ks))

fronts_on : (ks js ls : List Tok) → Fronts ks js → Fronts js ls → Fronts ks ls
fronts_on ks js ls a b = (a.0 ++ b.0, b.1 ∙ ap (λ l. l ++ b.0) a.1 ∙ append_assoc ks a.0 b.0)

fronts_behind : (xs ks ls : List Tok) → Fronts ks ls → Fronts (xs ++ ks) (xs ++ ls)
fronts_behind xs ks ls a = (a.0, ap (λ l. xs ++ l) a.1 ∙ sym (append_assoc xs ks a.0))

-- a line by its first tokens

line_blanked : (ks js : List Tok) → 1 ≤ length js → line (ks ++ js) ≡ blanked ks ++ line js
line_blanked [] js h = refl
line_blanked (k ∷ []) [] h = absurd (omega arith)
line_blanked (k ∷ []) (j ∷ js) h = refl
line_blanked (k ∷ i ∷ ks) js h = ap (λ l. k ∷ (a_mark Blank ∷ l)) (line_blanked (i ∷ ks) js h)

follow_spread : (ks js : List Tok) → follow (ks ++ js) ≡ spread ks ++ follow js
follow_spread [] js = refl
follow_spread (k ∷ ks) js = ap (λ l. a_mark Blank ∷ (k ∷ l)) (follow_spread ks js)

line_spaced : (ks js : List Tok) → 1 ≤ length ks → line (ks ++ js) ≡ spaced ks ++ follow js
line_spaced [] js h = absurd (omega arith)
line_spaced (k ∷ ks) js h = ap (λ l. k ∷ l) (follow_spread ks js)

module _ {A : Type 0} (f : A → Tok) where
  fronts_blanked : (xs ys : List A) → 1 ≤ length ys → Fronts (blanked (map f xs)) (line (map f (xs ++ ys)))
  fronts_blanked xs ys h = (line (map f ys), ap line (map-append f xs ys) ∙ line_blanked (map f xs) (map f ys) (omega (arith, length-map ys f)))

  fronts_spaced : (xs ys : List A) → 1 ≤ length xs → Fronts (spaced (map f xs)) (line (map f (xs ++ ys)))
  fronts_spaced xs ys h = (follow (map f ys), ap line (map-append f xs ys) ∙ line_spaced (map f xs) (map f ys) (omega (arith, length-map xs f)))

-- the heading

fronts_named : (sig : Sig) → Fronts (spaced (map name_tok sig)) (heading_tokens sig)
fronts_named sig = fronts_on (spaced (map name_tok sig)) (line (map name_tok sig)) (heading_tokens sig) (a_mark LineEnd ∷ [], spaced_end (map name_tok sig)) (line (map count_tok sig), refl)

fronts_heading : (h : Head) → HeadGood 32 h → (sig : Sig) × Declared sig × (1 ≤ length sig) × Fronts (head_tokens h) (heading_tokens sig)
fronts_heading (sig, WantsName) g =
    let (s, e, u) = fresh sig g.few in
    let new : Op = record { name = s; arity = 0 } in
    let d = g.declared in
    let long = length_push sig new in
    let all : Sig = sig ++ (new ∷ []) in (
      all,
      declared_push sig s 0 d e u (omega arith),
      omega arith,
      fronts_on (blanked (map name_tok sig)) (line (map name_tok all)) (heading_tokens all) (fronts_blanked name_tok sig (new ∷ []) (omega arith)) (line (map count_tok all), refl),
    )
fronts_heading (sig, HasName) g = (sig, g.0.declared, g.1, fronts_named sig)
fronts_heading (sig, WantsCount f) g = (
  sig,
  g.0.declared,
  omega (arith, g.1),
  subst (λ l. Fronts (head_tokens (sig, WantsCount f)) (line (map name_tok sig) ++ line (map count_tok l))) (take-append-drop f sig)
      (fronts_behind (line (map name_tok sig)) _ (line (map count_tok (take f sig ++ drop f sig))) (fronts_blanked count_tok (take f sig) (drop f sig) (omega (arith, g.1, length-drop f sig)))),
)
fronts_heading (sig, HasCount f) g = (
  sig,
  g.0.declared,
  omega (arith, g.1),
  subst (λ l. Fronts (head_tokens (sig, HasCount f)) (line (map name_tok sig) ++ line (map count_tok l))) (take-append-drop (suc f) sig)
      (fronts_behind (line (map name_tok sig)) _ (line (map count_tok (take (suc f) sig ++ drop (suc f) sig))) (fronts_spaced count_tok (take (suc f) sig) (drop (suc f) sig) (omega (arith, length-take-le (suc f) sig g.1)))),
)
fronts_heading (sig, Done) g = (sig, g.0.declared, g.1, fronts_whole (heading_tokens sig))

-- sheets

-- a left side that is read, its size aside
abbrev pub LeftOf : Sig → Hand → Type 0
LeftOf sig on_left = Unit {0}
LeftOf sig (on_right l) = LeftShaped sig l

pub left_of : (sig : Sig) (d : Hand) → HandGood sig d → LeftOf sig d
left_of sig on_left h = tt
left_of sig (on_right l) h = h.0

-- a sheet that the tokens of a stand begin
pub record Begun (s : Stand) : Type 0 where
  pub sheet : Sheet
  pub shaped : SheetShaped sheet
  pub rest : List Tok
  pub begins : sheet_tokens sheet ≡ stand_tokens s ++ rest

-- the tokens begin some lines before the rules
begun_front : (ks : List Tok) (sig : Sig) (grid : Grid) → Declared sig → 1 ≤ length sig → GridIn 0 sig grid → length grid ≤ 8 → Fronts ks (front_tokens sig grid) → (t : Sheet) × SheetShaped t × Fronts ks (sheet_tokens t)
begun_front ks sig grid good some a l h =
    let (more, b, c) = full_grid sig grid a l in
    let all : Grid = grid ++ more in
    let grown : Fronts (front_tokens sig grid) (front_tokens sig all) = fronts_behind (heading_tokens sig) (grid_tokens grid) (grid_tokens all) (grid_tokens more, grid_append grid more) in (
      sheet_of sig all [],
      record { declared = good; some_operators = some; one_or_two = c; in_range = b; lawful = tt },
      fronts_on ks (front_tokens sig all) (sheet_tokens (sheet_of sig all [])) (fronts_on ks (front_tokens sig grid) (front_tokens sig all) h grown) (_, refl),
    )

-- a line more
begun_line : (sig : Sig) (grid : Grid) (vs : List Value) (ks : List Tok) → Valued sig grid vs → length grid < 8
    → ((ws : List Value) → length vs + length ws ≡ length sig → Fronts ks (line (map value_tok (vs ++ ws)))) → (t : Sheet) × SheetShaped t × Fronts (front_tokens sig grid ++ ks) (sheet_tokens t)
begun_line sig grid vs ks g l f =
    let (ws, a, b) = completed (length grid) sig vs g.so_far in
    let all : Grid = grid ++ ((vs ++ ws) ∷ []) in
    let long = length_push grid (vs ++ ws) in
    let tail : Fronts ks (line (map value_tok (vs ++ ws)) ++ []) = fronts_on ks (line (map value_tok (vs ++ ws))) (line (map value_tok (vs ++ ws)) ++ []) (f ws b) ([], refl) in
    let shown : front_tokens sig grid ++ (line (map value_tok (vs ++ ws)) ++ []) ≡ front_tokens sig all =
    append_assoc (heading_tokens sig) (grid_tokens grid) _ ∙ ap (λ x. heading_tokens sig ++ x) (sym (grid_append grid ((vs ++ ws) ∷ []))) in
    begun_front (front_tokens sig grid ++ ks) sig all g.operators.declared g.some
    (grid_joined 0 sig grid ((vs ++ ws) ∷ []) g.in_range (subst (λ x. LineIn x sig (vs ++ ws)) (omega arith) a, tt)) (omega arith)
    (subst (Fronts (front_tokens sig grid ++ ks)) shown (fronts_behind (front_tokens sig grid) ks _ tail))

begun_wants : (sig : Sig) (grid : Grid) (vs : List Value) → Valued sig grid vs → length vs < length sig → (t : Sheet) × SheetShaped t × Fronts (front_tokens sig grid ++ blanked (map value_tok vs)) (sheet_tokens t)
begun_wants sig grid [] g l = begun_front (front_tokens sig grid ++ []) sig grid g.operators.declared g.some g.in_range g.at_most ([], sym (append-nil _ ∙ append-nil _))
begun_wants sig grid (v ∷ vs) g l = begun_line sig grid (v ∷ vs) (blanked (map value_tok (v ∷ vs))) g (g.not_last (omega arith)) (λ ws e. fronts_blanked value_tok (v ∷ vs) ws (omega arith))

-- a rule with the side that a state is on the way to
module _ (sig : Sig) (grid : Grid) (rules : List Rule) where
  pub begun_rule : (d : Hand) (s : State) → SheetShaped (sheet_of sig grid rules) → LeftOf sig d → SideBegun sig (before_side sig grid rules d) d s → Begun (in_rule sig grid rules d s)
  begun_rule on_left s shaped whole g =
      let (t, h, more) = completes shaped.declared (before_side sig grid rules on_left) on_left s shaped.some_operators g in
      let (rest, e) = more in
      let r : Rule = record { left = t; right = t } in
      let end : List Tok = a_mark Equals ∷ (tokens (text_of sig t) ++ (a_mark LineEnd ∷ [])) in
      let base : List Tok = sheet_tokens (sheet_of sig grid rules) in
      record {
        sheet = sheet_of sig grid (rules ++ (r ∷ []));
        shaped = shaped_push sig grid rules t t shaped h (record { is_term = h.is_term; bound = λ x q. q });
        rest = rest ++ end;
        begins = sheet_push sig grid rules r ∙ ap (λ l. base ++ (l ++ end)) e ∙ ap (λ l. base ++ l) (append_assoc (state_tokens sig s) rest end)
            ∙ sym (append_assoc base (state_tokens sig s) (rest ++ end)) ∙ ap (λ l. (l ++ state_tokens sig s) ++ (rest ++ end)) (sym (append-nil base));
      }
  begun_rule (on_right l) s shaped whole g =
      let (t, h, more) = completes shaped.declared (before_side sig grid rules (on_right l)) (on_right l) s shaped.some_operators g in
      let (rest, e) = more in
      let r : Rule = record { left = l; right = t } in
      let base : List Tok = sheet_tokens (sheet_of sig grid rules) in
      let left : List Tok = tokens (text_of sig l) in
      record {
        sheet = sheet_of sig grid (rules ++ (r ∷ []));
        shaped = shaped_push sig grid rules l t shaped whole h;
        rest = rest ++ (a_mark LineEnd ∷ []);
        begins = sheet_push sig grid rules r ∙ ap (λ x. base ++ (left ++ (a_mark Equals ∷ (x ++ (a_mark LineEnd ∷ []))))) e ∙ regroup base left (state_tokens sig s) rest;
      }
    where
      regroup : (x y z w : List Tok) → x ++ (y ++ (a_mark Equals ∷ ((z ++ w) ++ (a_mark LineEnd ∷ [])))) ≡ ((x ++ (y ++ (a_mark Equals ∷ []))) ++ z) ++ (w ++ (a_mark LineEnd ∷ []))
      regroup x y z w = simp append_assoc

pub begun : (s : Stand) → Good s → Begun s
begun (in_heading h) g =
    let (sig, a, b, c) = fronts_heading h g in
    let (t, d, e) = begun_front (head_tokens h) sig [] a b tt (omega arith) (fronts_on (head_tokens h) (heading_tokens sig) (front_tokens sig []) c ([], refl)) in
    record { sheet = t; shaped = d; rest = e.0; begins = e.1 }
begun (wants_value sig grid vs) g =
    let (t, d, e) = begun_wants sig grid vs g.0 g.1 in
    record { sheet = t; shaped = d; rest = e.0; begins = e.1 }
begun (has_value sig grid vs) g =
    let (t, d, e) = begun_line sig grid vs (spaced (map value_tok vs)) g.0 (g.0.not_last g.1) (λ ws _. fronts_spaced value_tok vs ws g.1) in
    record { sheet = t; shaped = d; rest = e.0; begins = e.1 }
begun (has_word sig grid) g = record {
  sheet = sheet_of sig grid [];
  shaped = g.0;
  rest = a_mark LineEnd ∷ [];
  begins = sym (append_assoc (front_tokens sig grid) (the_word ∷ []) (a_mark LineEnd ∷ []));
}
begun (in_rule sig grid rules d s) g = begun_rule sig grid rules d s g.shaped (left_of sig d g.hand) g.side.begun

-- those of a text

pub begins : (s : Stand) → Begun s → Begins (stand_tokens s)
begins s t = (t.sheet, t.shaped, (t.rest, tokens_sheet t.sheet t.shaped ∙ t.begins))

-- a further name may stand
pub one_more_name : (sig : Sig) → Operators 32 sig → (s : List ℕ) × Begins (head_tokens (sig, WantsName) ++ (a_name s ∷ []))
one_more_name sig g =
    let (s, e, u) = fresh sig g.few in
    let new : Op = record { name = s; arity = 0 } in
    let all : Sig = sig ++ (new ∷ []) in
    let many = length_push sig new in
    let ks : List Tok = head_tokens (sig, WantsName) ++ (a_name s ∷ []) in
    let same : spaced (map name_tok all) ≡ ks = ap spaced (map_push name_tok sig new) ∙ spaced_push (map name_tok sig) (a_name s) in
    let (t, d, more) = begun_front ks all [] (declared_push sig s 0 g.declared e u (omega arith)) (omega arith) tt (omega arith)
    (fronts_on ks (heading_tokens all) (front_tokens all []) (subst (λ l. Fronts l (heading_tokens all)) same (fronts_named all)) ([], refl)) in
    (s, (t, d, (more.0, tokens_sheet t d ∙ more.1)))
