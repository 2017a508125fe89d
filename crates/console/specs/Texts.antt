-- Bytes of the input, of which so many at most are held.
use Rattle.std.specs.Prelude.{◌≡◌, ℕ, cond, List, ◌++◌, length, Some, None, Option, nat_le}
use Rattle.std.specs.Borrow.{Bor}
use Rattle.fixed_vec.specs.declared.FixedVec.{FixedVec}
use Rattle.fixed_vec.specs.FixedVec.{items}
use Rattle.console.specs.declared.text.Text.{Text}

-- what is read of a text: its bytes, or that there are too many
pub data Seen : Type 0 where
  whole_text : List ℕ → Seen
  overlong_text : Seen

-- bytes of which at most N are held
abbrev pub within : ℕ → List ℕ → Seen
within N bs = cond (nat_le (length bs) N) (whole_text bs) overlong_text

-- so many bytes more
abbrev pub more : ℕ → Seen → List ℕ → Seen
more N (whole_text xs) bs = within N (xs ++ bs)
more N overlong_text bs = overlong_text

-- a text behind another
abbrev pub joined : ℕ → Seen → Seen → Seen
joined N s (whole_text bs) = more N s bs
joined N s overlong_text = overlong_text

abbrev pub seen_of : {N : ℕ} → Option (FixedVec ℕ N) → Seen
seen_of None = overlong_text
seen_of (Some bytes) = whole_text (items bytes)

abbrev pub seen : {N : ℕ} → Text N → Seen
seen t = seen_of t.bytes

abbrev pub Held : Seen → Option (Bor (List ℕ)) → Type 0
Held s None = s ≡ overlong_text
Held s (Some x) = s ≡ whole_text x.now
