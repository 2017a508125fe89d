use Rattle.std.proofs.Common.{cond, [], ◌∷◌, ◌++◌, refl, subst, Some, None}
use Rattle.sheet_reading.specs.Reading.{wants_value, has_value}
use Rattle.sheet_reader.specs.Values.{Awaits}
use Rattle.sheet_reader.proofs.Progress.{gave_up}
use Rattle.sheet_reader.proofs.Lines.{wants_dash}
use Rattle.sheet_reader.proofs.values.read_factor.Goals as goal

pub returns-in_err-read_number-clause-value : goal.returns-in_err-read_number-clause-value
returns-in_err-read_number-clause-value c b sig grid vs a =
    let here = subst (λ h. Awaits b sig grid vs (cond h (Some (1, 4)) None) c.args.lexer.now) c.if-has_argument.true a in
    gave_up b _ _ (c.in_err-read_number.ensures.value b sig grid vs here) c.from_residual.ensures.1

pub returns-in_err-expect-clause-value : goal.returns-in_err-expect-clause-value
returns-in_err-expect-clause-value c b sig grid vs a =
    let here = subst (λ h. Awaits b sig grid vs (cond h (Some (1, 4)) None) c.args.lexer.now) c.if-has_argument.false a in
    gave_up b _ _ (c.in_err-expect.ensures b (wants_value sig grid vs) (has_value sig grid (vs ++ (None ∷ []))) (λ at. refl) (wants_dash here) a.reached) c.from_residual-in_err-expect.ensures.1
