-- The refusals of admission and of the book.
use Rattle.std.specs.Prelude.{ℕ}
use Rattle.reading.specs.declared.refusal.Layer.TheVariants.{Sheet, Pool, Book}
use Rattle.reading.specs.declared.refusal.Refusal.{Refusal}

-- the order does not say that the rule's left side is greater than its right side
abbrev pub not_oriented : ℕ → Refusal
not_oriented rule = record { number = 11; layer = Sheet; place = rule; second = 0 }

-- the two sides of an overlap end in different terms
abbrev pub different_ends : ℕ → ℕ → Refusal
different_ends outer inner = record { number = 12; layer = Sheet; place = outer; second = inner }

-- a side of an overlap is not at its end after all steps that it may make
abbrev pub side_spent : ℕ → ℕ → Refusal
side_spent outer inner = record { number = 13; layer = Sheet; place = outer; second = inner }

-- the scratch pool cannot load a side of an overlap, or a side needs more nodes than are free
abbrev pub side_short : ℕ → ℕ → Refusal
side_short outer inner = record { number = 14; layer = Pool; place = outer; second = inner }

-- a pool or a table has a length that is not allowed
abbrev pub wrong_length : ℕ → Refusal
wrong_length length = record { number = 16; layer = Pool; place = length; second = 0 }

-- a ticket has more symbols than there are free nodes
abbrev pub no_room : ℕ → ℕ → Refusal
no_room symbols free = record { number = 17; layer = Pool; place = symbols; second = free }

-- the entry is held already
abbrev pub is_held : ℕ → Refusal
is_held entry = record { number = 18; layer = Book; place = entry; second = 0 }

-- the buffer is too short for the text
abbrev pub too_short : ℕ → Refusal
too_short entry = record { number = 19; layer = Book; place = entry; second = 0 }

-- the entry is empty, or not in the table
abbrev pub no_entry : ℕ → Refusal
no_entry entry = record { number = 20; layer = Book; place = entry; second = 0 }
