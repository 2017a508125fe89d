-- The checks of a left side.
use Rattle.std.proofs.Common.{◌≡◌, ◌∷◌, ◌++◌, map, refl, ap, ◌∙◌}
use Rattle.std.proofs.lemmas.List.{map-append}
use Rattle.terms.specs.Term.{Term, variable, instrument, apply, Terms, nil, cons}
use Rattle.compiled.specs.declared.Check.{Check}
use Rattle.compiled.specs.Symbols.{wanted, any, has_arguments}
use Rattle.compiled.specs.Plans.{checks_of, checks_under}
use Rattle.compiling.specs.declared.outline.Part.{Part}
use Rattle.compiling.specs.Outlines.{outline_of, outline_under, leaf}
use Rattle.compiling.proofs.Outlines.{front}

abbrev pub check_for : Part → Check
check_for p = record { symbol = wanted (leaf p); has_first = p.has_first; has_next = p.has_next }

wanted_front : (t : Term) → wanted (front t) ≡ wanted t
wanted_front (variable x) = refl
wanted_front (instrument n) = refl
wanted_front (apply f ts) = refl

mutual
  checks_outlined_of : (ts : Terms) → map check_for (outline_of ts) ≡ checks_of ts
  checks_outlined_of nil = refl
  checks_outlined_of (cons t us) =
      ap (λ l. record { symbol = wanted (front t); has_first = has_arguments t; has_next = any us } ∷ l) (map-append check_for (outline_under t) (outline_of us))
      ∙ (λ i. record { symbol = wanted_front t i; has_first = has_arguments t; has_next = any us } ∷ (checks_outlined t i ++ checks_outlined_of us i))

  pub checks_outlined : (t : Term) → map check_for (outline_under t) ≡ checks_under t
  checks_outlined (variable x) = refl
  checks_outlined (instrument n) = refl
  checks_outlined (apply f ts) = checks_outlined_of ts
