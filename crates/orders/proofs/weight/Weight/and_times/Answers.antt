use Rattle.std.proofs.Common.{◌+◌, ◌*◌, get_or, ap, arith, length-set}
use Rattle.orders.proofs.Sums.{summed_done, summed_left}
use Rattle.orders.proofs.weight.Weight.and_times.Goals as goal

pub loop-x-preserved : goal.loop-x-preserved
loop-x-preserved c =
    let i = c.loop-x.invariant in
    let now = c.loop-x.self.coefficients in
    let x = c.loop-x.x in
    let is = ap (λ f. get_or now x 0 + f * get_or c.args.other.now.coefficients x 0) c.from-times.ensures in
    record {
      whole = omega (arith, length-set now x (get_or now x 0 + c.from-times.result * get_or c.args.other.now.coefficients x 0), i.whole);
      constants = i.constants;
      done = summed_done now c.args.self.coefficients c.args.other.now.coefficients x c.args.factor _ (omega (arith, i.whole)) is i.left i.done;
      left = summed_left now c.args.self.coefficients c.args.other.now.coefficients x c.args.factor _ (omega (arith, i.whole)) is i.left;
    }
