-- The text of a term, as bytes.
use Rattle.std.specs.Prelude.{ℕ, ◌+◌, ◌%◌, List, [], ◌∷◌, ◌++◌, decimal}
use Rattle.terms.specs.Term.{Term, variable, instrument, apply, Terms, nil, cons}
use Rattle.terms.specs.Signature.{Sig, op_of}

-- a variable is a capital letter; an instrument is '#' and its number in decimal; an operator is its name, and its arguments in parentheses, separated by commas
abbrev mutual
  pub text_of : Sig → Term → List ℕ
  text_of sig (variable x) = (65 + x % 16) ∷ []
  text_of sig (instrument n) = 35 ∷ decimal n
  text_of sig (apply f ts) = (op_of sig f).name ++ arguments_text sig ts

  -- an operator without arguments has no parentheses
  pub arguments_text : Sig → Terms → List ℕ
  arguments_text sig nil = []
  arguments_text sig (cons t ts) = 40 ∷ (text_of sig t ++ others_text sig ts)

  -- the further arguments, each behind its comma, and the closing parenthesis
  pub others_text : Sig → Terms → List ℕ
  others_text sig nil = 41 ∷ []
  others_text sig (cons t ts) = 44 ∷ (text_of sig t ++ others_text sig ts)
