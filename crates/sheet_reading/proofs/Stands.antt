-- The tokens that are read where the reading of a sheet stands.
use Rattle.std.proofs.Common.{◌≡◌, List, [], ◌∷◌, ◌++◌, map, length, Some, None, codes, decimal, sym, refl, ap, ◌∙◌, append_assoc, append-nil, arith}
use Rattle.terms.specs.Rule.{Rule}
use Rattle.terms.specs.Signature.{Sig}
use Rattle.terms.specs.Text.{text_of}
use Rattle.reading.specs.declared.token.At.{At}
use Rattle.reading.specs.declared.token.Mark.TheVariants.{Equals, Dash, Blank, LineEnd}
use Rattle.reading.specs.declared.heading.Stage.TheVariants.{WantsName}
use Rattle.reading.specs.Tokens.{Tok, a_name, a_number, a_mark, tokens, whole, lines, past}
use Rattle.reading.proofs.Lines.{line, name_tok, heading_tokens, blanked, spaced}
use Rattle.reading.proofs.Running.{reach_with}
use Rattle.reading.proofs.States.{state_tokens}
use Rattle.reading.proofs.Telling.{same_at, length_whole}
use Rattle.sheet_reading.specs.Values.{Value, Grid}
use Rattle.sheet_reading.specs.Sheet.{Sheet, Limits}
use Rattle.sheet_reading.specs.Sides.{Hand}
use Rattle.sheet_reading.specs.Reading.{Stand, in_heading, wants_value, has_value, has_word, in_rule, Move, sheet_step}
use Rattle.sheet_reading.specs.Laws.{count, Behind, names_on, hand_tokens}
use Rattle.sheet_reading.proofs.Counting.{count_then}
use Rattle.reading.proofs.Heads.{head_tokens}

pub names_blanked : (sig : Sig) → names_on sig ≡ blanked (map name_tok sig)
names_blanked [] = refl
names_blanked (o ∷ os) = ap (λ l. name_tok o ∷ (a_mark Blank ∷ l)) (names_blanked os)

-- tokens of a sheet

abbrev pub value_tok : Value → Tok
value_tok None = a_mark Dash
value_tok (Some n) = a_number (decimal n)

abbrev pub grid_tokens : Grid → List Tok
grid_tokens [] = []
grid_tokens (vs ∷ g) = line (map value_tok vs) ++ grid_tokens g

abbrev pub rule_tokens : Sig → Rule → List Tok
rule_tokens sig r = tokens (text_of sig r.left) ++ (a_mark Equals ∷ (tokens (text_of sig r.right) ++ (a_mark LineEnd ∷ [])))

abbrev pub rules_tokens : Sig → List Rule → List Tok
rules_tokens sig [] = []
rules_tokens sig (r ∷ rs) = rule_tokens sig r ++ rules_tokens sig rs

-- the lines before the rules
abbrev pub front_tokens : Sig → Grid → List Tok
front_tokens sig grid = heading_tokens sig ++ grid_tokens grid

abbrev pub the_word : Tok
the_word = a_name (codes "rules")

abbrev pub sheet_tokens : Sheet → List Tok
sheet_tokens s = front_tokens s.operators s.values ++ (the_word ∷ (a_mark LineEnd ∷ rules_tokens s.operators s.rules))

pub grid_append : (g h : Grid) → grid_tokens (g ++ h) ≡ grid_tokens g ++ grid_tokens h
grid_append [] h = refl
grid_append (vs ∷ g) h = ap (λ l. line (map value_tok vs) ++ l) (grid_append g h) ∙ sym (append_assoc (line (map value_tok vs)) (grid_tokens g) (grid_tokens h))

pub rules_push : (sig : Sig) (rs : List Rule) (r : Rule) → rules_tokens sig (rs ++ (r ∷ [])) ≡ rules_tokens sig rs ++ rule_tokens sig r
rules_push sig [] r = append-nil (rule_tokens sig r)
rules_push sig (q ∷ rs) r = ap (λ l. rule_tokens sig q ++ l) (rules_push sig rs r) ∙ sym (append_assoc (rule_tokens sig q) (rules_tokens sig rs) (rule_tokens sig r))

-- tokens of a stand

abbrev pub sheet_of : Sig → Grid → List Rule → Sheet
sheet_of sig grid rules = record { operators = sig; values = grid; rules = rules }

-- those before a side of a rule
abbrev pub before_side : Sig → Grid → List Rule → Hand → List Tok
before_side sig grid rules d = sheet_tokens (sheet_of sig grid rules) ++ hand_tokens sig d

abbrev pub stand_tokens : Stand → List Tok
stand_tokens (in_heading h) = head_tokens h
stand_tokens (wants_value sig grid vs) = front_tokens sig grid ++ blanked (map value_tok vs)
stand_tokens (has_value sig grid vs) = front_tokens sig grid ++ spaced (map value_tok vs)
stand_tokens (has_word sig grid) = front_tokens sig grid ++ (the_word ∷ [])
stand_tokens (in_rule sig grid rules d s) = before_side sig grid rules d ++ state_tokens sig s

-- where the reading begins
abbrev pub start : Stand
start = in_heading ([], WantsName)

-- the stand behind some tokens
abbrev pub reach : Limits → Stand → At → List Tok → Move
reach m = reach_with (sheet_step m)

-- the place behind one token more

pub behind_past : (ks : List Tok) (at : At) (k : Tok) (ls : List Tok) → Behind ks at → ls ≡ ks ++ (k ∷ []) → Behind ls (past at k)
behind_past ks at k ls p e =
    same_at
    (omega (arith, ap (λ x. x.place) p, ap (λ l. length (whole l)) e, length_whole ks k))
    (omega (arith, ap (λ x. x.line) p, ap (count lines) e, count_then lines ks k))
