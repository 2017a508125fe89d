-- The text of a sheet at the front of the input.
use Rattle.std.specs.Prelude.{◌≡◌, ◌≢◌, ℕ, ◌+◌, ◌^◌, ◌<◌, true, List, [], ◌∷◌, ◌++◌, length, codes, Some, None, Option, Ok, Err, Result, ⊤, All}
use Rattle.std.specs.Io.KnownBytes.{Consumes}
use Rattle.console.specs.Texts.{Seen, within}
use Rattle.console.specs.Lines.{no_line_end}

-- a line without its end that is not just a dot
pub record OrdinaryLine (line : List ℕ) : Type 0 where
  pub clean : no_line_end line ≡ true
  pub no_dot : line ≢ codes "."

-- lines, each with its end
abbrev pub with_ends : List (List ℕ) → List ℕ
with_ends [] = []
with_ends (line ∷ lines) = line ++ (10 ∷ with_ends lines)

-- lines that are not just a dot, each with its end
abbrev pub OrdinaryLines : List ℕ → Type 0
OrdinaryLines text = (lines : List (List ℕ)) × All OrdinaryLine lines × (text ≡ with_ends lines)

-- the text of a sheet at the front of an input, and what is left behind it
pub data FrontOf (input text rest : List ℕ) : Type 0 where
  -- up to a line that is just a dot
  to_dot : OrdinaryLines text → input ≡ text ++ (codes "." ++ (10 ∷ rest)) → FrontOf input text rest
  -- up to such a line at the end of the input, without its end
  to_last_dot : OrdinaryLines text → input ≡ text ++ codes "." → rest ≡ [] → FrontOf input text rest
  -- up to the end of the input, with the last line's end or without
  to_end : (lines last : List ℕ) → OrdinaryLines lines → OrdinaryLine last → text ≡ lines ++ last → input ≡ text → rest ≡ [] → FrontOf input text rest

-- The bytes that a reader has left before and after, where they are known, and the text that is read: it is the text at the front.
-- Nothing is said of an input past all counting.
abbrev pub IsFront : Option (List ℕ) → Option (List ℕ) → List ℕ → Type 0
IsFront None after text = ⊤
IsFront (Some input) None text = ⊥
IsFront (Some input) (Some rest) text = length input + 1 < 2 ^ 64 → FrontOf input text rest

-- where reading fails, the lines before are held, and what came of the next line is gone
abbrev pub ReadsFront : {E : Type 0} → ℕ → Option (List ℕ) → Option (List ℕ) → Seen → Result (Unit {0}) E → Type 0
ReadsFront N before after s (Ok done) = (text : List ℕ) × (s ≡ within N text) × IsFront before after text
ReadsFront N before after s (Err _) = (lines : List ℕ) × (part : List ℕ) × (s ≡ within N lines) × OrdinaryLines lines × (no_line_end part ≡ true) × Consumes before after (lines ++ part)

-- an input has at most one text at its front
pub record OneFront : Type 0 where
  pub same : (input text rest text' rest' : List ℕ) → FrontOf input text rest → FrontOf input text' rest' → (text ≡ text') × (rest ≡ rest')
