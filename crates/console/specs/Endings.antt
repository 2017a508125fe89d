-- A line that is read from a reader.
use Rattle.std.specs.Prelude.{◌≡◌, ℕ, ◌+◌, ◌^◌, ◌<◌, ◌≤◌, ◌⊎◌, true, List, [], ◌∷◌, ◌++◌, length, Some, None, Option, OnSome, Ok, Err, Result}
use Rattle.std.specs.Io.KnownBytes.{Consumes, IsAtEnd}
use Rattle.console.specs.declared.line.Ending.{Ending}
use Rattle.console.specs.declared.line.Ending.TheVariants.{LineEnd, InputEnd}
use Rattle.console.specs.Texts.{Seen, whole_text, within}
use Rattle.console.specs.Lines.{no_line_end}

-- the bytes of one line are read, from its first on
pub record Collected (N : ℕ) (bs : List ℕ) (s : Seen) : Type 0 where
  pub read : s ≡ within N bs
  pub clean : no_line_end bs ≡ true

-- What a reader has left before and after a line, where it is known, what is read of the line, and how it ended: the bytes of the line
-- are gone from the reader, and its line end with them. Where the input ends the line, or there is none, nothing is left; the input
-- is also taken to end where a line has grown past all counting.
abbrev pub Ends : ℕ → Option (List ℕ) → Option (List ℕ) → Seen → Option Ending → Type 0
Ends N before after s (Some LineEnd) = (bs : List ℕ) × Collected N bs s × Consumes before after (bs ++ 10 ∷ [])
Ends N before after s (Some InputEnd) = (bs : List ℕ) × (0 < length bs) × Collected N bs s × Consumes before after bs × (OnSome before (IsAtEnd after) ⊎ (2 ^ 64 ≤ length bs + 1))
Ends N before after s None = (s ≡ whole_text []) × Consumes before after [] × OnSome before (IsAtEnd after)

-- where reading fails, what came before is collected
abbrev pub ReadsLine : {E : Type 0} → ℕ → Option (List ℕ) → Option (List ℕ) → Seen → Result (Option Ending) E → Type 0
ReadsLine N before after s (Ok ending) = Ends N before after s ending
ReadsLine N before after s (Err _) = (bs : List ℕ) × Collected N bs s × Consumes before after bs
