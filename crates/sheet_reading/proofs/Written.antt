-- The tokens of a sheet's text.
use Rattle.std.proofs.Common.{◌≡◌, ℕ, suc, ◌%◌, List, [], ◌∷◌, ◌++◌, map, Some, None, codes, decimal, Option, sym, refl, ap, ◌∙◌, append_assoc, arith}
use Rattle.std.specs.List.{AllByRecursion}
use Rattle.std.proofs.lemmas.Fmt.{decimal_nonempty}
use Rattle.terms.specs.Rule.{Rule, RuleOf}
use Rattle.terms.specs.Signature.{Sig, Declared}
use Rattle.terms.specs.Text.{text_of}
use Rattle.reading.specs.declared.token.Mark.TheVariants.{Equals, LineEnd}
use Rattle.reading.specs.Tokens.{a_mark, tokens}
use Rattle.reading.proofs.Digits.{all_digits_decimal}
use Rattle.reading.proofs.Lines.{line, heading_tokens, tokens_number, Shows, tokens_line, tokens_heading}
use Rattle.reading.specs.Heading.{line_of}
use Rattle.sheet_reading.specs.Values.{Value, Grid, value_text, range_of, ValueIn, LineIn, GridIn, grid_text}
use Rattle.sheet_reading.specs.Sheet.{Sheet, SheetShaped, rule_text, rules_text, sheet_text}
use Rattle.reading.proofs.Lexing.{tokens_before}
use Rattle.sheet_reading.proofs.Ranges.{Small, range_small}
use Rattle.sheet_reading.proofs.Stands.{value_tok, grid_tokens, rule_tokens, rules_tokens, front_tokens, the_word, sheet_tokens}

-- values

value_shows : (r : Option (ℕ × ℕ)) (v : Value) → Small r → ValueIn r v → Shows value_text value_tok v
value_shows None None s h r e = refl
value_shows None (Some n) s h r e = absurd h
value_shows (Some i) None s h r e = absurd h
value_shows (Some i) (Some n) s h r e = tokens_number (decimal n) r (decimal_nonempty n (omega (arith, h.1))) (all_digits_decimal n (omega (arith, h.1))) e

line_shows : (n : ℕ) (sig : Sig) (vs : List Value) → LineIn n sig vs → AllByRecursion (Shows value_text value_tok) vs
line_shows n [] [] h = tt
line_shows n [] (v ∷ vs) h = absurd h
line_shows n (o ∷ os) [] h = absurd h
line_shows n (o ∷ os) (v ∷ vs) h = (value_shows (range_of n o.arity) v (range_small (n % 4) o.arity) h.0, line_shows n os vs h.1)

tokens_grid : (n : ℕ) (sig : Sig) (g : Grid) → GridIn n sig g → (r : List ℕ) → tokens (grid_text g ++ r) ≡ grid_tokens g ++ tokens r
tokens_grid n sig [] h r = refl
tokens_grid n sig (vs ∷ g) h r =
    ap tokens (append_assoc (line_of value_text vs) (grid_text g) r)
    ∙ tokens_line value_text value_tok vs (line_shows n sig vs h.0) (grid_text g ++ r)
    ∙ ap (λ l. line (map value_tok vs) ++ l) (tokens_grid (suc n) sig g h.1 r)
    ∙ sym (append_assoc (line (map value_tok vs)) (grid_tokens g) (tokens r))

-- rules

tokens_rule : (sig : Sig) → Declared sig → (r : Rule) → RuleOf sig r → (b : List ℕ) → tokens (rule_text sig r ++ b) ≡ rule_tokens sig r ++ tokens b
tokens_rule sig good r h b =
    let left : List ℕ = text_of sig r.left in
    let right : List ℕ = text_of sig r.right in
    ap tokens (append_assoc left (61 ∷ (right ++ (10 ∷ []))) b ∙ ap (λ l. left ++ (61 ∷ l)) (append_assoc right (10 ∷ []) b))
    ∙ tokens_before good r.left h.left_term (61 ∷ (right ++ (10 ∷ b))) refl
    ∙ ap (λ l. tokens left ++ (a_mark Equals ∷ l)) (tokens_before good r.right h.right_term (10 ∷ b) refl)
    ∙ simp append_assoc

tokens_rules : (sig : Sig) → Declared sig → (rs : List Rule) → AllByRecursion (RuleOf sig) rs → tokens (rules_text sig rs) ≡ rules_tokens sig rs
tokens_rules sig good [] h = refl
tokens_rules sig good (r ∷ rs) h = tokens_rule sig good r h.0 (rules_text sig rs) ∙ ap (λ l. rule_tokens sig r ++ l) (tokens_rules sig good rs h.1)

pub tokens_sheet : (s : Sheet) → SheetShaped s → tokens (sheet_text s) ≡ sheet_tokens s
tokens_sheet s h =
    let sig : Sig = s.operators in
    let rest : List ℕ = codes "rules" ++ (10 ∷ rules_text sig s.rules) in
    tokens_heading h.declared (grid_text s.values ++ rest)
    ∙ ap (λ l. heading_tokens sig ++ l) (tokens_grid 0 sig s.values h.in_range rest)
    ∙ sym (append_assoc (heading_tokens sig) (grid_tokens s.values) (tokens rest))
    ∙ ap (λ l. front_tokens sig s.values ++ (the_word ∷ (a_mark LineEnd ∷ l))) (tokens_rules sig h.declared s.rules h.lawful)
