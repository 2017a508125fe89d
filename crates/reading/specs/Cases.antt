-- Worked cases: what some texts are read as.
use Rattle.std.specs.Prelude.{◌≡◌, ℕ, ◌<◌, List, [], ◌∷◌, ◌++◌, length, Ok, Err, codes, Result}
use Rattle.terms.specs.Term.{Term, instrument, apply, nil, cons}
use Rattle.terms.specs.Signature.{Sig}
use Rattle.reading.specs.declared.token.At.{At}
use Rattle.reading.specs.declared.fault.TextFault.{TextFault}
use Rattle.reading.specs.declared.fault.TextFault.TheVariants.{Stray, BadNumber, Unexpected, Undeclared, WrongArity, PastLimit}
use Rattle.reading.specs.Tokens.{origin}
use Rattle.reading.specs.Reading.{ticket_limit, read_ticket}

-- nil, neg and both take 0, 1 and 2 arguments
abbrev pub sample : Sig
sample = record { name = codes "nil"; arity = 0 } ∷ record { name = codes "neg"; arity = 1 } ∷ record { name = codes "both"; arity = 2 } ∷ []

-- an operator whose name has 12 bytes
abbrev pub twelve : ℕ → Sig
twelve n = record { name = codes "abcdefghijkl"; arity = n } ∷ []

-- a place in the first line
abbrev pub at : ℕ → At
at n = record { place = n; line = 0 }

abbrev pub reads : Sig → List ℕ → Result Term TextFault → Type 0
reads sig b r = read_ticket sig b ≡ r

pub record Worked : Type 0 where
  pub largest_instrument : reads sample (codes "#999999") (Ok (instrument 999999))
  pub nested : reads sample (codes "both(nil,neg(#7))") (Ok (apply 2 (cons (apply 0 nil) (cons (apply 1 (cons (instrument 7) nil)) nil))))
  pub instrument_past_largest : reads sample (codes "#1000000") (Err (BadNumber (at 0)))
  pub needless_zero : reads sample (codes "#01") (Err (BadNumber (at 0)))
  pub no_digits : reads sample (codes "neg(#)") (Err (BadNumber (at 4)))
  pub empty : reads sample [] (Err (Unexpected (at 0)))
  pub variable_in_ticket : reads sample (codes "neg(A)") (Err (Unexpected (at 4)))
  pub end_too_early : reads sample (codes "neg(nil") (Err (Unexpected (at 7)))
  pub no_arguments_in_parentheses : reads sample (codes "neg()") (Err (Unexpected (at 4)))
  pub opening_behind_instrument : reads sample (codes "#7(") (Err (Unexpected (at 2)))
  pub line_end : reads sample (codes "nil" ++ 10 ∷ []) (Err (Unexpected (at 3)))
  pub thirteenth_byte : reads (twelve 0) (codes "abcdefghijklm") (Err (Unexpected (at 12)))
  pub undeclared : reads sample (codes "neg(ne)") (Err (Undeclared (at 4)))
  pub stray : reads sample (codes "neg(?)") (Err (Stray (at 4)))
  pub missing_opening : reads sample (codes "neg") (Err (WrongArity (at 0)))
  pub needless_opening : reads sample (codes "neg(nil(") (Err (WrongArity (at 4)))
  pub comma_for_closing : reads sample (codes "both(nil,neg(#7,nil))") (Err (WrongArity (at 9)))
  pub closing_for_comma : reads sample (codes "both(nil)") (Err (WrongArity (at 0)))
  -- where two faults apply to one token
  pub stray_before_unexpected : reads sample (codes "nil?") (Err (Stray (at 3)))
  pub stray_before_count : reads sample (codes "neg?") (Err (Stray (at 3)))
  pub number_before_unexpected : reads sample (codes "007") (Err (BadNumber (at 0)))
  pub number_before_count : reads sample (codes "neg#01") (Err (BadNumber (at 3)))
  pub count_before_unexpected : reads sample (codes "neg)") (Err (WrongArity (at 0)))
  pub count_before_undeclared : reads (twelve 1) (codes "abcdefghijklm") (Err (WrongArity (at 0)))
  pub unexpected_before_undeclared : reads sample (codes "#7ne") (Err (Unexpected (at 2)))
  -- the length goes before all else
  pub too_long : (b : List ℕ) → ticket_limit < length b → reads sample b (Err (PastLimit origin))
