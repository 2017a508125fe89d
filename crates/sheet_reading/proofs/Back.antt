-- A sheet's tokens are read as that sheet.
use Rattle.std.proofs.Common.{◌≡◌, ℕ, suc, ◌+◌, ◌%◌, ◌<◌, ◌≤◌, true, false, ◌&&◌, eqb, ltb, leb, ◌⊎◌, List, [], ◌∷◌, ◌++◌, map, length, Some, None, Ok, codes, Option, Result, sym, refl, ap, ◌∙◌, subst, ⊎_elim, append_assoc, append-nil, arith, length-append}
use Rattle.std.specs.List.{AllByRecursion}
use Rattle.std.proofs.lemmas.List.{length_push}
use Rattle.std.proofs.lemmas.Bool.{cond_both, cond-true, cond-false, and_right, and_from, or_left, or_right, eq-eqb, le-leb, lt-ltb, le-ltb}
use Rattle.terms.specs.Term.{Term}
use Rattle.terms.specs.Rule.{Rule, RuleOf}
use Rattle.terms.specs.Signature.{Sig, op_of, Declared}
use Rattle.terms.specs.Text.{text_of}
use Rattle.reading.specs.declared.token.At.{At}
use Rattle.reading.specs.declared.token.Mark.TheVariants.{Equals, Blank, LineEnd}
use Rattle.reading.specs.declared.heading.Stage.TheVariants.{WantsName, HasName, WantsCount, HasCount, Done}
use Rattle.reading.specs.Tokens.{Tok, a_mark, tokens, past}
use Rattle.reading.specs.Reading.{top, within, State, wants, opens, has, chain}
use Rattle.reading.proofs.Digits.{numbered_decimal}
use Rattle.reading.proofs.Equal.{not_both, same_ok}
use Rattle.reading.proofs.Lines.{follow, line, heading_tokens}
use Rattle.reading.proofs.Running.{passed, chain_ok, reach_join, Leads, leads_join, then_reach, reach_with, reach_first}
use Rattle.reading.specs.declared.fault.SheetFault.{SheetFault}
use Rattle.sheet_reading.specs.Values.{Value, Grid, range_of, ValueIn, LineIn, GridIn}
use Rattle.sheet_reading.specs.Sheet.{Sheet, SheetShaped, Limits, SideWithin, SheetWithin}
use Rattle.sheet_reading.specs.Sides.{Hand, on_left, on_right, side_step}
use Rattle.sheet_reading.specs.Reading.{is_mark, is_word, Stand, in_heading, wants_value, has_value, has_word, in_rule, from_least, value_of, rules_may_come, ends_side, behind_side, sheet_step, headed}
use Rattle.sheet_reading.proofs.SideFacts.{LeftShaped, RightShaped, HandShaped, side_reach}
use Rattle.sheet_reading.proofs.Stands.{reach, value_tok, grid_tokens, rule_tokens, rules_tokens, front_tokens, the_word, sheet_tokens}
use Rattle.sheet_reading.proofs.SideBack.{back}
use Rattle.sheet_reading.proofs.Ranges.{Small, range_small}
use Rattle.sheet_reading.proofs.Valuing.{mark_is}
use Rattle.reading.proofs.HeadingBack.{heading_back}
use Rattle.reading.specs.Heading.{Head, Outcome, head_step}

-- values

value_back : (r : Option (ℕ × ℕ)) (v : Value) (at : At) → Small r → ValueIn r v → value_of r (value_tok v) at ≡ Ok v
value_back None None at h i = refl
value_back None (Some n) at h i = absurd i
value_back (Some r) None at h i = absurd i
value_back (Some r) (Some n) at h i = ap (λ o. from_least r.0 o at) (numbered_decimal r.1 n (omega arith) i.1) ∙ cond-true (leb r.0 n) (Ok (Some n)) _ (le-leb r.0 n i.0)

no_word : (w : List ℕ) (v : Value) → is_word w (value_tok v) ≡ false
no_word w None = refl
no_word w (Some n) = refl

line_at : (n : ℕ) (sig : Sig) (vs : List Value) (v : Value) (rest : List Value) → LineIn n sig (vs ++ (v ∷ rest)) → ValueIn (range_of n (op_of sig (length vs)).arity) v
line_at n [] [] v rest h = absurd h
line_at n [] (w ∷ vs) v rest h = absurd h
line_at n (o ∷ os) [] v rest h = h.0
line_at n (o ∷ os) (w ∷ vs) v rest h = line_at n os vs v rest h.1

line_long : (n : ℕ) (sig : Sig) (vs : List Value) → LineIn n sig vs → length vs ≡ length sig
line_long n [] [] h = refl
line_long n [] (v ∷ vs) h = absurd h
line_long n (o ∷ os) [] h = absurd h
line_long n (o ∷ os) (v ∷ vs) h = ap suc (line_long n os vs h.1)

-- a heading

module _ (m : Limits) (g : Head) where
  head_on : (ks : List Tok) (h : Head) (at : At) (k : Tok) (u : Head) → head_step m.operators h at k ≡ Ok u → reach m (headed u) (past at k) ks ≡ Ok (headed g) → reach m (in_heading h) at (k ∷ ks) ≡ Ok (headed g)
  head_on ks h at k u e q = then_reach (sheet_step m) (in_heading h) at k ks (headed u) (ap (λ (r : Outcome). chain r (λ v. Ok (headed v))) e) ∙ q

  pub heads_on : (ks : List Tok) (h : Head) (at : At) → reach_with (head_step m.operators) h at ks ≡ Ok g → reach m (headed h) at ks ≡ Ok (headed g)
  heads_on [] h at e = ap (λ x. Ok (headed x)) (same_ok e)
  heads_on (k ∷ ks) (sig, WantsName) at e = let (u, p, q) = reach_first (head_step m.operators) (sig, WantsName) at k ks g e in head_on ks (sig, WantsName) at k u p (heads_on ks u (past at k) q)
  heads_on (k ∷ ks) (sig, HasName) at e = let (u, p, q) = reach_first (head_step m.operators) (sig, HasName) at k ks g e in head_on ks (sig, HasName) at k u p (heads_on ks u (past at k) q)
  heads_on (k ∷ ks) (sig, WantsCount f) at e = let (u, p, q) = reach_first (head_step m.operators) (sig, WantsCount f) at k ks g e in head_on ks (sig, WantsCount f) at k u p (heads_on ks u (past at k) q)
  heads_on (k ∷ ks) (sig, HasCount f) at e = let (u, p, q) = reach_first (head_step m.operators) (sig, HasCount f) at k ks g e in head_on ks (sig, HasCount f) at k u p (heads_on ks u (past at k) q)
  heads_on (k ∷ ks) (sig, Done) at e = not_both (sym e)

-- lines of values and the word behind them

module _ (m : Limits) where
  module _ (sig : Sig) (grid : Grid) (more : length grid < 8) where
    pub one_back : (vs : List Value) (v : Value) (at : At) → ValueIn (range_of (length grid) (op_of sig (length vs)).arity) v → sheet_step m (wants_value sig grid vs) at (value_tok v) ≡ Ok (has_value sig grid (vs ++ (v ∷ [])))
    one_back vs v at i =
        cond-false (rules_may_come grid vs && is_word (codes "rules") (value_tok v)) _ _ (and_right (rules_may_come grid vs) _ (no_word (codes "rules") v))
        ∙ cond-true (ltb (length grid) 8) _ _ (lt-ltb (length grid) 8 more)
        ∙ ap (λ (r : Result Value SheetFault). chain r (λ w. Ok (has_value sig grid (vs ++ (w ∷ []))))) (value_back _ v at (range_small (length grid % 4) (op_of sig (length vs)).arity) i)

    line_back : (rest vs : List Value) (v : Value) → LineIn (length grid) sig (vs ++ (v ∷ rest)) → Leads (sheet_step m) (wants_value sig grid vs) (value_tok v ∷ follow (map value_tok rest)) (wants_value sig (grid ++ ((vs ++ (v ∷ rest)) ∷ [])) [])
    line_back [] vs v h at =
        then_reach (sheet_step m) (wants_value sig grid vs) at (value_tok v) (a_mark LineEnd ∷ []) _ (one_back vs v at (line_at (length grid) sig vs v [] h))
        ∙ then_reach (sheet_step m) (has_value sig grid (vs ++ (v ∷ []))) (past at (value_tok v)) (a_mark LineEnd) [] (wants_value sig (grid ++ ((vs ++ (v ∷ [])) ∷ [])) [])
        (cond-false (ltb (length (vs ++ (v ∷ []))) (length sig)) _ _ (le-ltb (length (vs ++ (v ∷ []))) (length sig) (omega (arith, line_long (length grid) sig (vs ++ (v ∷ [])) h))))
    line_back (w ∷ rest) vs v h at =
        let same : (vs ++ (v ∷ [])) ++ (w ∷ rest) ≡ vs ++ (v ∷ (w ∷ rest)) = append_assoc vs (v ∷ []) (w ∷ rest) in
        let ks : List Tok = value_tok w ∷ follow (map value_tok rest) in
        then_reach (sheet_step m) (wants_value sig grid vs) at (value_tok v) (a_mark Blank ∷ ks) _ (one_back vs v at (line_at (length grid) sig vs v (w ∷ rest) h))
        ∙ then_reach (sheet_step m) (has_value sig grid (vs ++ (v ∷ []))) (past at (value_tok v)) (a_mark Blank) ks (wants_value sig grid (vs ++ (v ∷ [])))
        (cond-true (ltb (length (vs ++ (v ∷ []))) (length sig)) _ _ (lt-ltb (length (vs ++ (v ∷ []))) (length sig) (omega (arith, line_long (length grid) sig (vs ++ (v ∷ (w ∷ rest))) h, length-append vs (v ∷ (w ∷ rest)), length_push vs v))))
        ∙ line_back rest (vs ++ (v ∷ [])) w (subst (LineIn (length grid) sig) (sym same) h) _
        ∙ ap (λ l. Ok (wants_value sig (grid ++ (l ∷ [])) [])) same

    whole_line : (vs : List Value) → 1 ≤ length sig → LineIn (length grid) sig vs → Leads (sheet_step m) (wants_value sig grid []) (line (map value_tok vs)) (wants_value sig (grid ++ (vs ∷ [])) [])
    whole_line [] some h = absurd (omega (arith, line_long (length grid) sig [] h))
    whole_line (v ∷ vs) some h = line_back vs [] v h

  grid_back : (sig : Sig) (g grid : Grid) → 1 ≤ length sig → GridIn (length grid) sig g → length grid + length g ≤ 8 → Leads (sheet_step m) (wants_value sig grid []) (grid_tokens g) (wants_value sig (grid ++ g) [])
  grid_back sig [] grid some h l = λ at. ap (λ x. Ok (wants_value sig x [])) (sym (append-nil grid))
  grid_back sig (vs ∷ g) grid some h l =
      let long = length_push grid vs in
      let same : (grid ++ (vs ∷ [])) ++ g ≡ grid ++ (vs ∷ g) = append_assoc grid (vs ∷ []) g in
      let rest : GridIn (length (grid ++ (vs ∷ []))) sig g = subst (λ n. GridIn n sig g) (omega arith) h.1 in
      leads_join (sheet_step m) (wants_value sig grid []) (line (map value_tok vs)) (grid_tokens g) (wants_value sig (grid ++ (vs ∷ [])) []) (wants_value sig (grid ++ (vs ∷ g)) [])
      (whole_line sig grid (omega arith) vs some h.0)
      (λ at. grid_back sig g (grid ++ (vs ∷ [])) some rest (omega arith) at ∙ ap (λ x. Ok (wants_value sig x [])) same)

  word_back : (sig : Sig) (grid : Grid) → (length grid ≡ 4) ⊎ (length grid ≡ 8) → Leads (sheet_step m) (wants_value sig grid []) (the_word ∷ (a_mark LineEnd ∷ [])) (in_rule sig grid [] on_left (wants top))
  word_back sig grid h at =
      let may : rules_may_come grid [] ≡ true = ⊎_elim (λ e. or_left (eqb (length grid) 4) _ (eq-eqb (length grid) 4 e)) (λ e. or_right (eqb (length grid) 4) _ (eq-eqb (length grid) 8 e)) h in
      then_reach (sheet_step m) (wants_value sig grid []) at the_word (a_mark LineEnd ∷ []) (has_word sig grid) (cond-true (rules_may_come grid [] && is_word (codes "rules") the_word) _ _ (and_from (rules_may_come grid []) _ may refl))

-- rules

module _ (m : Limits) (sig : Sig) (good : Declared sig) (grid : Grid) where
  side_on : (rules : List Rule) (d : Hand) (s : State) (at : At) (k : Tok) (u : State) → side_step m sig (length rules) d s at k ≡ Ok u → sheet_step m (in_rule sig grid rules d s) at k ≡ Ok (in_rule sig grid rules d u)
  side_on rules d (wants c) at k u e = ap (λ (r : Result State SheetFault). chain r (λ v. Ok (in_rule sig grid rules d v))) e
  side_on rules d (opens f a n c) at k u e = ap (λ (r : Result State SheetFault). chain r (λ v. Ok (in_rule sig grid rules d v))) e
  side_on rules on_left (has t b top) at k u e = cond_both (is_mark Equals k) _ _ (λ r. r ≡ Ok (in_rule sig grid rules on_left u))
      (λ q. not_both (sym (ap (side_step m sig (length rules) on_left (has t b top) at) (sym (mark_is Equals k q)) ∙ e)))
      (λ _. ap (λ (r : Result State SheetFault). chain r (λ v. Ok (in_rule sig grid rules on_left v))) e)
  side_on rules (on_right l) (has t b top) at k u e = cond_both (is_mark LineEnd k) _ _ (λ r. r ≡ Ok (in_rule sig grid rules (on_right l) u))
      (λ q. not_both (sym (ap (side_step m sig (length rules) (on_right l) (has t b top) at) (sym (mark_is LineEnd k q)) ∙ e)))
      (λ _. ap (λ (r : Result State SheetFault). chain r (λ v. Ok (in_rule sig grid rules (on_right l) v))) e)
  side_on rules d (has t b (within f a ts n c)) at k u e = ap (λ (r : Result State SheetFault). chain r (λ v. Ok (in_rule sig grid rules d v))) e

  sides_on : (rules : List Rule) (d : Hand) (ks : List Tok) (s : State) (at : At) (u : State) → side_reach m sig (length rules) d s at ks ≡ Ok u → reach m (in_rule sig grid rules d s) at ks ≡ Ok (in_rule sig grid rules d u)
  sides_on rules d [] s at u e = ap (λ x. Ok (in_rule sig grid rules d x)) (same_ok e)
  sides_on rules d (k ∷ ks) s at u e =
      let (v, p, q) = chain_ok (side_step m sig (length rules) d s at k) _ u e in
      then_reach (sheet_step m) (in_rule sig grid rules d s) at k ks (in_rule sig grid rules d v) (side_on rules d s at k v p) ∙ sides_on rules d ks v (past at k) u q

  -- a side and the mark that ends it
  side_back : (rules : List Rule) (d : Hand) (t : Term) (k : Tok) → length rules < m.rules → HandShaped sig d t → SideWithin m t → ends_side d k ≡ true
      → Leads (sheet_step m) (in_rule sig grid rules d (wants top)) (tokens (text_of sig t) ++ (k ∷ [])) (behind_side sig grid rules d t)
  side_back rules d t k room h w e at =
      let (b, r) = back good m (length rules) room d t at h w in
      reach_join (sheet_step m) (in_rule sig grid rules d (wants top)) at (tokens (text_of sig t)) (k ∷ []) (in_rule sig grid rules d (has t b top)) (behind_side sig grid rules d t)
      (sides_on rules d (tokens (text_of sig t)) (wants top) at (has t b top) r)
      (then_reach (sheet_step m) (in_rule sig grid rules d (has t b top)) (passed at (tokens (text_of sig t))) k [] (behind_side sig grid rules d t) (cond-true (ends_side d k) _ _ e))

  rule_back : (rules : List Rule) (r : Rule) → length rules < m.rules → RuleOf sig r → SideWithin m r.left × SideWithin m r.right → Leads (sheet_step m) (in_rule sig grid rules on_left (wants top)) (rule_tokens sig r) (in_rule sig grid (rules ++ (r ∷ [])) on_left (wants top))
  rule_back rules r room h w =
      let left : LeftShaped sig r.left = record { is_term = h.left_term; operator_first = h.operator_first; linear = h.linear } in
      let right : RightShaped sig r.left r.right = record { is_term = h.right_term; bound = h.bound } in
      subst (λ ks. Leads (sheet_step m) (in_rule sig grid rules on_left (wants top)) ks (in_rule sig grid (rules ++ (r ∷ [])) on_left (wants top)))
      (append_assoc (tokens (text_of sig r.left)) (a_mark Equals ∷ []) (tokens (text_of sig r.right) ++ (a_mark LineEnd ∷ [])))
      (leads_join (sheet_step m) (in_rule sig grid rules on_left (wants top)) (tokens (text_of sig r.left) ++ (a_mark Equals ∷ [])) (tokens (text_of sig r.right) ++ (a_mark LineEnd ∷ [])) (in_rule sig grid rules (on_right r.left) (wants top)) (in_rule sig grid (rules ++ (r ∷ [])) on_left (wants top))
      (side_back rules on_left r.left (a_mark Equals) room left w.0 refl)
      (side_back rules (on_right r.left) r.right (a_mark LineEnd) room right w.1 refl))

  rules_back : (rs rules : List Rule) → AllByRecursion (RuleOf sig) rs → AllByRecursion (λ r. SideWithin m r.left × SideWithin m r.right) rs → length rules + length rs ≤ m.rules
      → Leads (sheet_step m) (in_rule sig grid rules on_left (wants top)) (rules_tokens sig rs) (in_rule sig grid (rules ++ rs) on_left (wants top))
  rules_back [] rules h w l = λ at. ap (λ x. Ok (in_rule sig grid x on_left (wants top))) (sym (append-nil rules))
  rules_back (r ∷ rs) rules h w l =
      let long = length_push rules r in
      leads_join (sheet_step m) (in_rule sig grid rules on_left (wants top)) (rule_tokens sig r) (rules_tokens sig rs) (in_rule sig grid (rules ++ (r ∷ [])) on_left (wants top)) (in_rule sig grid (rules ++ (r ∷ rs)) on_left (wants top))
      (rule_back rules r (omega arith) h.0 w.0)
      (λ at. rules_back rs (rules ++ (r ∷ [])) h.1 w.1 (omega arith) at ∙ ap (λ x. Ok (in_rule sig grid x on_left (wants top))) (append_assoc rules (r ∷ []) rs))

-- the stand behind a whole sheet
abbrev pub behind_sheet : Sheet → Stand
behind_sheet s = in_rule s.operators s.values s.rules on_left (wants top)

pub sheet_back : (m : Limits) (s : Sheet) → SheetShaped s → SheetWithin m s → Leads (sheet_step m) (in_heading ([], WantsName)) (sheet_tokens s) (behind_sheet s)
sheet_back m s h w =
    let sig : Sig = s.operators in
    let grid : Grid = s.values in
    let start : Stand = in_heading ([], WantsName) in
    let few : 0 + length grid ≤ 8 = ⊎_elim (λ e. omega arith) (λ e. omega arith) h.one_or_two in
    let front : Leads (sheet_step m) start (front_tokens sig grid) (wants_value sig grid []) = leads_join (sheet_step m) start (heading_tokens sig) (grid_tokens grid) (wants_value sig [] []) (wants_value sig grid [])
    (λ at. heads_on m (sig, Done) (heading_tokens sig) ([], WantsName) at (heading_back m.operators sig h.declared h.some_operators w.few_operators at)) (grid_back m sig grid [] h.some_operators h.in_range few) in
    leads_join (sheet_step m) start (front_tokens sig grid) (the_word ∷ (a_mark LineEnd ∷ rules_tokens sig s.rules)) (wants_value sig grid []) (behind_sheet s) front
    (leads_join (sheet_step m) (wants_value sig grid []) (the_word ∷ (a_mark LineEnd ∷ [])) (rules_tokens sig s.rules) (in_rule sig grid [] on_left (wants top)) (behind_sheet s)
    (word_back m sig grid h.one_or_two)
    (rules_back m sig h.declared grid s.rules [] h.lawful w.small_sides (omega (arith, w.few_rules))))
