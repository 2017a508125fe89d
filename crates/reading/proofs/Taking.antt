-- The kinds of tokens that a state takes.
use Rattle.std.proofs.Common.{◌≡◌, zero, suc, Bool, true, false, Ok, Err, Option, Result, refl}
use Rattle.terms.specs.Term.{Term}
use Rattle.terms.specs.Signature.{Sig}
use Rattle.reading.specs.declared.token.At.{At}
use Rattle.reading.specs.declared.token.Mark.{Mark}
use Rattle.reading.specs.declared.token.Mark.TheVariants.{Opening, Closing, Comma, Equals, Dash, Blank, LineEnd}
use Rattle.reading.specs.declared.fault.TextFault.{TextFault}
use Rattle.reading.specs.Tokens.{Tok, a_name, a_number, an_instrument, a_variable, a_mark, a_stray}
use Rattle.reading.specs.Reading.{Context, top, within, State, wants, opens, has, closed, continued, on_has_mark, step}
use Rattle.reading.specs.Laws.{Kind, heads, numbers, variables, strays, marks, kind}

abbrev term_kind : Kind → Bool
term_kind heads = true
term_kind numbers = false
term_kind variables = false
term_kind strays = false
term_kind (marks m) = false

abbrev takes_closing : Context → Bool
takes_closing top = false
takes_closing (within f a ts zero k) = true
takes_closing (within f a ts (suc n) k) = false

abbrev takes_comma : Context → Bool
takes_comma top = false
takes_comma (within f a ts zero k) = false
takes_comma (within f a ts (suc n) k) = true

abbrev takes_mark : Mark → Context → Bool
takes_mark Opening k = false
takes_mark Closing k = takes_closing k
takes_mark Comma k = takes_comma k
takes_mark Equals k = false
takes_mark Dash k = false
takes_mark Blank k = false
takes_mark LineEnd k = false

abbrev follow_kind : Context → Kind → Bool
follow_kind k heads = false
follow_kind k numbers = false
follow_kind k variables = false
follow_kind k strays = false
follow_kind k (marks m) = takes_mark m k

-- the kinds that a state may take; behind an operator that takes arguments every fault is of the count, so none is left out there
abbrev pub takes : State → Kind → Bool
takes (wants k) c = term_kind c
takes (opens f a n k) c = true
takes (has t m k) c = follow_kind k c

abbrev pub Fits : Bool → Result State TextFault → Type 0
Fits b (Ok s) = b ≡ true
Fits b (Err f) = Unit {0}

fits_closed : (t : Term) (k : Context) (at : At) → Fits (takes_closing k) (closed t k at)
fits_closed t top at = tt
fits_closed t (within f a ts zero k) at = refl
fits_closed t (within f a ts (suc n) k) at = tt

fits_continued : (t : Term) (k : Context) (at : At) → Fits (takes_comma k) (continued t k at)
fits_continued t top at = tt
fits_continued t (within f a ts zero k) at = tt
fits_continued t (within f a ts (suc n) k) at = refl

fits_mark : (j : Mark) (at : At) (t : Term) (m : Option At) (k : Context) → Fits (takes_mark j k) (on_has_mark j at t m k)
fits_mark Opening at t m k = tt
fits_mark Closing at t m k = fits_closed t k at
fits_mark Comma at t m k = fits_continued t k at
fits_mark Equals at t m k = tt
fits_mark Dash at t m k = tt
fits_mark Blank at t m k = tt
fits_mark LineEnd at t m k = tt

always_fits : (r : Result State TextFault) → Fits true r
always_fits (Ok s) = refl
always_fits (Err f) = tt

-- what is taken is of such a kind
pub fits : (sig : Sig) (s : State) (at : At) (k : Tok) → Fits (takes s (kind k)) (step sig s at k)
fits sig (wants k) at (a_name s) = always_fits _
fits sig (wants k) at (a_number s) = tt
fits sig (wants k) at (an_instrument s) = always_fits _
fits sig (wants k) at (a_variable x) = tt
fits sig (wants k) at (a_mark m) = tt
fits sig (wants k) at (a_stray b) = tt
fits sig (opens f a n k) at j = always_fits _
fits sig (has t m k) at (a_name s) = tt
fits sig (has t m k) at (a_number s) = tt
fits sig (has t m k) at (an_instrument s) = tt
fits sig (has t m k) at (a_variable x) = tt
fits sig (has t m k) at (a_mark j) = fits_mark j at t m k
fits sig (has t m k) at (a_stray b) = tt
