-- The answer to a sheet that is too long.
use Rattle.std.proofs.Common.{◌≡◌, ℕ, ◌<◌, ◌≤◌, leb, List, length, Err, sym, ◌∙◌, ⊎_elim}
use Rattle.std.proofs.lemmas.Bool.{cond-false, lt-leb, cases_lt}
use Rattle.reading.specs.declared.fault.TextFault.TheVariants.{PastLimit}
use Rattle.reading.specs.declared.fault.SheetFault.TheVariants.{Text}
use Rattle.reading.specs.Tokens.{origin}
use Rattle.reading.specs.Heading.{sheet_limit}
use Rattle.sheet_reading.specs.Reading.{read_sheet}
use Rattle.console.specs.Texts.{whole_text, overlong_text, within}
use Rattle.console.proofs.Texts.{within_few}

-- a text that is too long to be held is too long to be read
pub overlong_read : (b : List ℕ) → within 32768 b ≡ overlong_text → read_sheet b ≡ Err (Text (PastLimit origin))
unfolding read_sheet sheet_limit
overlong_read b e =
    ⊎_elim
    (λ (many : 32768 < length b). cond-false (leb (length b) 32768) _ _ (lt-leb (length b) 32768 many))
    (λ (few : length b ≤ 32768). let w : overlong_text ≡ whole_text b = sym e ∙ within_few 32768 b few in cc)
    (cases_lt 32768 (length b))
