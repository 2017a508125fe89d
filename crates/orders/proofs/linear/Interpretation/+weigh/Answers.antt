use Rattle.std.proofs.Common.{Some, sym, ap, ◌∙◌, arith}
use Rattle.orders.specs.Linear.{base_in, linear_of}
use Rattle.orders.proofs.Interpreting.{small_of, no_symbol, its_arguments, its_first, its_others, its_sum, adds_up, none_weighed, instrument_weighed, variable_weighed, operator_weighed, operator_fits}
use Rattle.orders.proofs.linear.Interpretation.+weigh.Goals as goal

pub weigh_arguments-returns-in_default : goal.weigh_arguments-returns-in_default
weigh_arguments-returns-in_default t c = none_weighed _ _ (linear_of c.args.self.now.weighing) c.args.operator c.args.n c.zero.result (sym c.in_default.ensures.place) c.zero.ensures.constant c.zero.ensures.coefficients

pub weigh_arguments-weigh_term-first-requires : goal.weigh_arguments-weigh_term-first-requires
weigh_arguments-weigh_term-first-requires t c = (omega (arith, c.decreases), its_first _ _ c.requires (sym c.in-Some.ensures.place))

pub weigh_arguments-weigh_arguments-others-requires : goal.weigh_arguments-weigh_arguments-others-requires
weigh_arguments-weigh_arguments-others-requires t c = (omega (arith, c.decreases), its_others _ _ c.requires (sym c.in-Some.ensures.place) c.in-Some.ensures.few)

pub weigh_arguments-and_times-requires : goal.weigh_arguments-and_times-requires
weigh_arguments-and_times-requires t c =
    let m = linear_of c.args.self.now.weighing in
    adds_up _ _ c.requires (sym c.in-Some.ensures.place) m c.args.operator c.factor.result c.weigh_term-first.result c.weigh_arguments-others.result c.factor.ensures.value c.weigh_term-first.ensures c.weigh_arguments-others.ensures (small_of c.args.self.now.weighing)

pub weigh_arguments-returns : goal.weigh_arguments-returns
weigh_arguments-returns t c =
    let m = linear_of c.args.self.now.weighing in
    its_sum _ _ c.requires (sym c.in-Some.ensures.place) m c.args.operator c.factor.result c.weigh_term-first.result c.weigh_arguments-others.result c.factor.ensures.value c.weigh_term-first.ensures c.weigh_arguments-others.ensures c.and_times.result c.and_times.ensures

pub weigh_term-unreachable-requires : goal.weigh_term-unreachable-requires
weigh_term-unreachable-requires t c = no_symbol _ _ c.requires (sym c.in_default.ensures)

pub weigh_term-overflow_sub-levels : goal.weigh_term-overflow_sub-levels
weigh_term-overflow_sub-levels t c = (its_arguments _ _ c.requires (sym c.in-Some.ensures ∙ ap Some c.in-Operator.is)).0

pub weigh_term-weigh_arguments-weight-requires : goal.weigh_term-weigh_arguments-weight-requires
weigh_term-weigh_arguments-weight-requires t c =
    let (some, row) = its_arguments _ _ c.requires (sym c.in-Some.ensures ∙ ap Some c.in-Operator.is) in
    (omega (arith, c.decreases, some), row)

pub weigh_term-overflow_add-weight : goal.weigh_term-overflow_add-weight
weigh_term-overflow_add-weight t c =
    let w = c.args.self.now.weighing in
    omega (arith, operator_fits _ _ (linear_of w) c.in-Operator.operator c.from.result c.weigh_arguments-weight.result (sym c.in-Some.ensures ∙ ap Some c.in-Operator.is) (c.from.ensures ∙ ap base_in c.base.ensures.value) c.weigh_arguments-weight.ensures (small_of w) c.requires)

pub weigh_term-returns-in-Variable : goal.weigh_term-returns-in-Variable
weigh_term-returns-in-Variable t c =
    let m = linear_of c.args.self.now.weighing in
    variable_weighed _ _ m c.in-Variable.x c.of_variable.result (sym c.in-Some.ensures ∙ ap Some c.in-Variable.is) (c.of_variable.ensures m)

pub weigh_term-returns-in-Instrument : goal.weigh_term-returns-in-Instrument
weigh_term-returns-in-Instrument t c =
    instrument_weighed _ _ (linear_of c.args.self.now.weighing) c.in-Instrument.field-0 c.zero.result (sym c.in-Some.ensures ∙ ap Some c.in-Instrument.is) c.zero.ensures.constant c.zero.ensures.coefficients

pub weigh_term-returns-in-Operator : goal.weigh_term-returns-in-Operator
weigh_term-returns-in-Operator t c =
    let m = linear_of c.args.self.now.weighing in
    operator_weighed _ _ m c.in-Operator.operator c.from.result c.weigh_arguments-weight.result (sym c.in-Some.ensures ∙ ap Some c.in-Operator.is) (c.from.ensures ∙ ap base_in c.base.ensures.value) c.weigh_arguments-weight.ensures
