-- Bytes written into a buffer, as far as it reaches.
use Rattle.std.specs.Prelude.{◌≡◌, ℕ, suc, ◌+◌, ◌^◌, ◌<◌, List, [], ◌∷◌, length, slice_set}
use Rattle.traversal.specs.declared.write.writer.Writer.{Writer}

-- the buffer with the bytes in it from a place on; those past its end are lost
abbrev pub over : List ℕ → ℕ → List ℕ → List ℕ
over b i [] = b
over b i (x ∷ xs) = over (slice_set b i x) (suc i) xs

-- the bytes are written from a place on, and the place after them is answered
pub record Lays (bytes before : List ℕ) (at : ℕ) (after : List ℕ) (r : ℕ) : Type 0 where
  pub buffer : after ≡ over before at bytes
  pub end : r ≡ at + length bytes

-- so many bytes more can be counted
abbrev pub HasRoom : Writer → ℕ → Type 0
HasRoom w n = w.len + n < 2 ^ 32

-- the bytes are written behind those written before, into the same buffer
pub record Puts (bytes : List ℕ) (before after : Writer) : Type 0 where
  pub lays : Lays bytes before.buffer.now before.len after.buffer.now after.len
  pub same_buffer : after.buffer.ghost_name ≡ before.buffer.ghost_name
