-- A line that is read from a reader, chunk by chunk.
use Rattle.std.proofs.Common.{◌≡◌, ℕ, ◌+◌, ◌<◌, ◌≤◌, true, List, [], ◌∷◌, ◌++◌, length, take, Some, None, Option, sym, ap, ◌∙◌, subst, arith, append_assoc, length-append}
use Rattle.std.specs.Io.KnownBytes.{Consumes}
use Rattle.std.proofs.KnownBytes.{Consumes-trans}
use Rattle.std.proofs.lemmas.List.{take_at}
use Rattle.console.specs.declared.line.Ending.{Ending}
use Rattle.console.specs.declared.line.Ending.TheVariants.{LineEnd, InputEnd}
use Rattle.console.specs.Texts.{Seen, more}
use Rattle.console.specs.Lines.{no_line_end, Taken}
use Rattle.console.specs.Endings.{Collected, Ends}
use Rattle.console.proofs.Texts.{more_within}
use Rattle.console.proofs.Lines.{clean_join}

-- how the line ends if no byte more is there
abbrev pub EndsSo : Option Ending → List ℕ → Type 0
EndsSo None bs = bs ≡ []
EndsSo (Some LineEnd) bs = ⊥
EndsSo (Some InputEnd) bs = 0 < length bs

-- what the loop over the chunks keeps
pub record Collecting (N : ℕ) (before now : Option (List ℕ)) (s : Seen) (ending : Option Ending) (chunks : ℕ) : Type 0 where
  pub bytes : List ℕ
  pub collected : Collected N bytes s
  pub consumed : Consumes before now bytes
  pub ends : EndsSo ending bytes
  pub many : chunks ≤ length bytes

collected_more : (N : ℕ) (xs ys : List ℕ) (s t : Seen) → Collected N xs s → t ≡ more N s ys → no_line_end ys ≡ true → Collected N (xs ++ ys) t
collected_more N xs ys s t c e h = record {
  read = e ∙ ap (λ x. more N x ys) c.read ∙ more_within N xs ys;
  clean = clean_join xs ys c.clean h;
}

-- a line end that is found stands in the chunk
pub found_within : (N : ℕ) (chunk : List ℕ) (s t : Seen) (n : ℕ) → Taken N s chunk t (Some n) → n ≤ length chunk
found_within N chunk s t n w =
    let (front, rest, split, clean, many, read) = w in
    omega (arith, many, ap length split, length-append front (10 ∷ rest))

module _ (N : ℕ) (before a b : Option (List ℕ)) (s t : Seen) (ending : Option Ending) (chunks : ℕ) (g : Collecting N before a s ending chunks) where
  -- a chunk without a line end is collected whole
  pub whole_chunk : (chunk : List ℕ) → 0 < length chunk → Taken N s chunk t None → Consumes a b chunk → Collecting N before b t (Some InputEnd) (chunks + 1)
  whole_chunk chunk some w q = record {
    bytes = g.bytes ++ chunk;
    collected = collected_more N g.bytes chunk s t g.collected w.0 w.1;
    consumed = Consumes-trans before a b g.bytes chunk g.consumed q;
    ends = omega (arith, length-append g.bytes chunk);
    many = omega (arith, length-append g.bytes chunk, g.many);
  }

  -- a line end ends the line
  pub line_found : (chunk : List ℕ) (n : ℕ) → Taken N s chunk t (Some n) → Consumes a b (take n chunk) → Ends N before b t (Some LineEnd)
  line_found chunk n w q =
      let (front, rest, split, clean, many, read) = w in
      let shown : take n chunk ≡ front ++ 10 ∷ [] = ap (take n) (split ∙ sym (append_assoc front (10 ∷ []) rest)) ∙ take_at (front ++ 10 ∷ []) rest n (omega (arith, many, length-append front (10 ∷ []))) in (
        g.bytes ++ front,
        collected_more N g.bytes front s t g.collected read clean,
        subst (Consumes before b) (ap (λ l. g.bytes ++ l) shown ∙ sym (append_assoc g.bytes front (10 ∷ []))) (Consumes-trans before a b g.bytes (take n chunk) g.consumed q),
      )
