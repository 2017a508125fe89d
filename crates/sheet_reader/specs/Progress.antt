-- How far a text is read as a sheet: where the reading of the definition stands, and the lexer with it.
use Rattle.std.specs.Prelude.{◌≡◌, ℕ, cond, List, [], ◌∷◌, ◌++◌, Ok, Err, Option, Result}
use Rattle.lexer.specs.declared.token.Lexeme.{Lexeme}
use Rattle.lexer.specs.declared.token.Lexer.{Lexer}
use Rattle.lexer.specs.Lexing.{meaning, what_is_left}
use Rattle.reading.specs.declared.token.At.{At}
use Rattle.reading.specs.declared.token.Mark.{Mark}
use Rattle.reading.specs.declared.token.Mark.TheVariants.{Opening}
use Rattle.reading.specs.declared.heading.Stage.TheVariants.{WantsName}
use Rattle.reading.specs.declared.fault.TextFault.{TextFault}
use Rattle.reading.specs.declared.fault.TextFault.TheVariants.{Unexpected}
use Rattle.reading.specs.declared.fault.SheetFault.{SheetFault}
use Rattle.reading.specs.declared.fault.SheetFault.TheVariants.{Text}
use Rattle.reading.specs.Tokens.{Tok, tokens, origin, past}
use Rattle.reading.specs.Reading.{needless, fault_of, run_with}
use Rattle.sheet_reading.specs.Sheet.{Sheet, limits}
use Rattle.sheet_reading.specs.Reading.{Stand, in_heading, is_mark, sheet_step, sheet_end, sheet_run}

-- where reading begins
abbrev pub start : Stand
start = in_heading ([], WantsName)

-- the stand and the place behind some tokens
abbrev pub behind : List Tok → Result (Stand × At) SheetFault
behind = run_with (sheet_step limits) (λ s at. Ok (s, at)) start origin

-- what a text is read as, its length aside
abbrev pub outcome : List ℕ → Result Sheet SheetFault
outcome b = sheet_run limits start origin (tokens b)

-- the lexer is behind some tokens of a text, and they lead to the stand
pub record Reached (b : List ℕ) (s : Stand) (l : Lexer) : Type 0 where
  pub before : List Tok
  pub split : tokens b ≡ before ++ tokens (what_is_left l)
  pub there : behind before ≡ Ok (s, l.at)

-- the same of a token that is still to be taken; the lexer is behind it
pub record Meets (b : List ℕ) (s : Stand) (x : Lexeme) (l : Lexer) : Type 0 where
  pub before : List Tok
  pub split : tokens b ≡ before ++ (meaning x.token ∷ tokens (what_is_left l))
  pub there : behind before ≡ Ok (s, x.at)
  pub at_behind : l.at ≡ past x.at (meaning x.token)

-- reading goes on, or the text is refused with the fault
abbrev pub Goes : {A : Type 0} → List ℕ → Result A SheetFault → (A → Type 0) → Type 0
Goes b (Ok x) On = On x
Goes b (Err f) On = outcome b ≡ Err f

-- the text must not end here
abbrev pub EndsEarly : Stand → Type 0
EndsEarly s = (at : At) → sheet_end s at ≡ Err (Text (Unexpected at))

-- the fault of a token that may not come behind a term, where an operator without arguments may stand just before; or where a mark must come
abbrev pub misplaced : Option At → Tok → At → TextFault
misplaced bare tok at = cond (is_mark Opening tok) (needless bare at) (fault_of tok at (Unexpected at))

-- the mark must come, and leads on
abbrev pub Wants : Stand → Option At → Mark → Stand → Type 0
Wants s bare mark u = (at : At) (tok : Tok) → sheet_step limits s at tok ≡ cond (is_mark mark tok) (Ok u) (Err (Text (misplaced bare tok at)))
