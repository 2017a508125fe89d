-- Worked cases: what some sheets are read as.
use Rattle.std.specs.Prelude.{◌≡◌, ℕ, zero, suc, ◌+◌, ◌/◌, ◌%◌, ◌<◌, List, [], ◌∷◌, ◌++◌, length, Some, None, Ok, Err, codes, Option, Result}
use Rattle.terms.specs.Term.{Term, variable, apply, nil, cons}
use Rattle.terms.specs.Rule.{Rule}
use Rattle.reading.specs.declared.token.At.{At}
use Rattle.reading.specs.declared.fault.TextFault.TheVariants.{Stray, BadNumber, Unexpected, Undeclared, WrongArity, PastLimit}
use Rattle.reading.specs.Tokens.{origin}
use Rattle.reading.specs.Cases.{sample}
use Rattle.reading.specs.Heading.{sheet_limit, line_of}
use Rattle.reading.specs.declared.fault.SheetFault.{SheetFault}
use Rattle.reading.specs.declared.fault.SheetFault.TheVariants.{Text, Repeated, Headless, Doubled, Unbound}
use Rattle.sheet_reading.specs.Values.{Grid}
use Rattle.sheet_reading.specs.Sheet.{Sheet}
use Rattle.sheet_reading.specs.Reading.{read_sheet}

-- lines, each with its end
abbrev pub on_lines : List (List ℕ) → List ℕ
on_lines [] = []
on_lines (l ∷ ls) = l ++ (10 ∷ on_lines ls)

-- the lines before the rules of a sheet over nil, neg and both
abbrev pub front : List (List ℕ)
front = codes "nil neg both" ∷ codes "0 1 2" ∷ codes "1 1 3" ∷ codes "- 2 2" ∷ codes "- - 1" ∷ codes "- - -" ∷ codes "rules" ∷ []

-- such a sheet with these rules
abbrev pub with_rules : List (List ℕ) → List ℕ
with_rules rs = on_lines (front ++ rs)

abbrev pub house_text : List ℕ
house_text = with_rules (codes "neg(neg(A))=A" ∷ codes "neg(nil)=nil" ∷ codes "neg(both(A,B))=both(neg(A),neg(B))" ∷ codes "both(nil,A)=A" ∷ codes "both(A,nil)=A" ∷ codes "both(both(A,B),C)=both(A,both(B,C))" ∷ [])

-- the terms of its rules

abbrev pub none : Term
none = apply 0 nil

abbrev pub neg : Term → Term
neg t = apply 1 (cons t nil)

abbrev pub both : Term → Term → Term
both t u = apply 2 (cons t (cons u nil))

abbrev pub A : Term
A = variable 0

abbrev pub B : Term
B = variable 1

abbrev pub C : Term
C = variable 2

abbrev pub house_values : Grid
house_values = (Some 1 ∷ Some 1 ∷ Some 3 ∷ []) ∷ (None ∷ Some 2 ∷ Some 2 ∷ []) ∷ (None ∷ None ∷ Some 1 ∷ []) ∷ (None ∷ None ∷ None ∷ []) ∷ []

abbrev pub house_rules : List Rule
house_rules =
    record { left = neg (neg A); right = A } ∷ record { left = neg none; right = none } ∷ record { left = neg (both A B); right = both (neg A) (neg B) }
    ∷ record { left = both none A; right = A } ∷ record { left = both A none; right = A } ∷ record { left = both (both A B) C; right = both A (both B C) } ∷ []

abbrev pub house : Sheet
house = record { operators = sample; values = house_values; rules = house_rules }

abbrev pub reads : List ℕ → Result Sheet SheetFault → Type 0
reads b r = read_sheet b ≡ r

-- a place in a line
abbrev pub at : ℕ → ℕ → At
at place line = record { place = place; line = line }

-- the first rule begins at place 49, in line 7
abbrev pub refuses_rule : List ℕ → SheetFault → Type 0
refuses_rule r f = reads (with_rules (r ∷ [])) (Err f)

-- texts at the limits

abbrev pub times : ℕ → List ℕ → List (List ℕ)
times zero l = []
times (suc n) l = l ∷ times n l

-- names of two letters: aa to ap, ba to bp, and so on
abbrev pub names_from : ℕ → ℕ → List (List ℕ)
names_from zero i = []
names_from (suc n) i = ((97 + i / 16) ∷ (97 + i % 16) ∷ []) ∷ names_from n (suc i)

abbrev pub value_line : ℕ → List ℕ → List ℕ
value_line n v = line_of (λ w. w) (times n v)

-- so many operators without arguments, and no rules
abbrev pub names_alone : ℕ → List ℕ
names_alone n =
    line_of (λ w. w) (names_from n 0)
    ++ (value_line n (codes "0") ++ (value_line n (codes "0") ++ (value_line n (codes "-") ++ (value_line n (codes "-") ++ (value_line n (codes "-") ++ on_lines (codes "rules" ∷ []))))))

-- neg( and so on, around a text
abbrev pub negated : ℕ → List ℕ → List ℕ
negated zero b = b
negated (suc n) b = codes "neg(" ++ (negated n b ++ codes ")")

-- a term of so many levels, each of them full: of 5 levels it has 31 symbols
abbrev pub full : ℕ → List ℕ
full zero = []
full (suc zero) = codes "nil"
full (suc (suc n)) = codes "both(" ++ (full (suc n) ++ (codes "," ++ (full (suc n) ++ codes ")")))

-- how many operators and rules were read
abbrev pub sizes : Result Sheet SheetFault → Option (ℕ × ℕ)
sizes (Ok s) = Some (length s.operators, length s.rules)
sizes (Err f) = None

abbrev pub takes : List ℕ → ℕ → ℕ → Type 0
takes b operators rules = sizes (read_sheet b) ≡ Some (operators, rules)

pub record Worked : Type 0 where
  pub the_house_sheet : reads house_text (Ok house)
  pub no_rules : reads (with_rules []) (Ok (record { operators = sample; values = house_values; rules = [] }))
  -- one of each refusal
  pub stray : refuses_rule (codes "neg(?)=nil") (Text (Stray (at 53 7)))
  pub base_past_largest : reads (on_lines (codes "nil" ∷ codes "0" ∷ codes "101" ∷ [])) (Err (Text (BadNumber (at 6 2))))
  pub factor_past_least : reads (on_lines (codes "neg" ∷ codes "1" ∷ codes "1" ∷ codes "0" ∷ [])) (Err (Text (BadNumber (at 8 3))))
  pub needless_zero : refuses_rule (codes "neg(#01)=nil") (Text (BadNumber (at 53 7)))
  pub two_blanks : reads (on_lines (codes "nil  neg" ∷ [])) (Err (Text (Unexpected (at 4 0))))
  pub number_for_dash : reads (on_lines (codes "nil" ∷ codes "0" ∷ codes "1" ∷ codes "1" ∷ [])) (Err (Text (Unexpected (at 8 3))))
  pub dash_for_number : reads (on_lines (codes "neg" ∷ codes "1" ∷ codes "1" ∷ codes "-" ∷ [])) (Err (Text (Unexpected (at 8 3))))
  pub another_word : reads (on_lines (codes "nil" ∷ codes "0" ∷ codes "1" ∷ codes "-" ∷ codes "-" ∷ codes "-" ∷ codes "rule" ∷ [])) (Err (Text (Unexpected (at 14 6))))
  pub end_too_early : reads (codes "nil") (Err (Text (Unexpected (at 3 0))))
  pub empty_rule : refuses_rule [] (Text (Unexpected (at 49 7)))
  pub undeclared : refuses_rule (codes "no(A)=A") (Text (Undeclared (at 49 7)))
  pub missing_opening : refuses_rule (codes "neg=nil") (Text (WrongArity (at 49 7)))
  pub needless_opening : refuses_rule (codes "neg(nil(A))=nil") (Text (WrongArity (at 53 7)))
  pub repeated : reads (on_lines (codes "nil nil" ∷ [])) (Err (Repeated (at 4 0)))
  pub variable_in_front : refuses_rule (codes "A=nil") (Headless (at 49 7))
  pub instrument_in_front : refuses_rule (codes "#1=nil") (Headless (at 49 7))
  pub doubled : refuses_rule (codes "both(A,A)=A") (Doubled (at 56 7))
  pub unbound : refuses_rule (codes "neg(A)=B") (Unbound (at 56 7))
  -- the limits
  pub most_names : takes (names_alone 32) 32 0
  pub a_name_more : reads (names_alone 33) (Err (Text (PastLimit (at 96 0))))
  pub most_rules : takes (with_rules (times 32 (codes "neg(nil)=nil"))) 3 32
  pub a_rule_more : reads (with_rules (times 33 (codes "neg(nil)=nil"))) (Err (Text (PastLimit (at 465 39))))
  pub most_symbols : takes (with_rules ((negated 1 (full 5) ++ codes "=nil") ∷ [])) 3 1
  pub a_symbol_more : refuses_rule (negated 2 (full 5) ++ codes "=nil") (Text (PastLimit (at 203 7)))
  pub most_levels : takes (with_rules ((negated 15 (codes "nil") ++ codes "=nil") ∷ [])) 3 1
  pub a_level_more : refuses_rule (negated 16 (codes "nil") ++ codes "=nil") (Text (PastLimit (at 113 7)))
  -- where two faults apply to one token
  pub limit_before_repeated : reads (line_of (λ w. w) (names_from 32 0 ++ (codes "aa" ∷ []))) (Err (Text (PastLimit (at 96 0))))
  pub limit_before_headless : reads (with_rules (times 32 (codes "neg(nil)=nil") ++ (codes "A=nil" ∷ []))) (Err (Text (PastLimit (at 465 39))))
  pub undeclared_before_limit : reads (with_rules (times 32 (codes "neg(nil)=nil") ++ (codes "no=nil" ∷ []))) (Err (Text (Undeclared (at 465 39))))
  pub undeclared_before_headless : refuses_rule (codes "x=nil") (Text (Undeclared (at 49 7)))
  pub limit_before_doubled : refuses_rule (codes "both(A," ++ (negated 15 (codes "A") ++ codes ")=nil")) (Text (PastLimit (at 116 7)))
  -- the length goes before all else
  pub too_long : (b : List ℕ) → sheet_limit < length b → reads b (Err (Text (PastLimit origin)))
