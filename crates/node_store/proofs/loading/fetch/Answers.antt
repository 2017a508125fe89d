use Rattle.std.proofs.Common.{[], reverse, ap, arith}
use Rattle.node_store.specs.Memory.{memory}
use Rattle.node_store.proofs.Loadings.{at_work, fetched_of, not_built, few_nodes, few_symbols}
use Rattle.node_store.proofs.loading.fetch.Goals as goal

pub returns-in_err-root : goal.returns-in_err-root
returns-in_err-root g c s t h e room =
    let m = memory c.args.store.now in
    let x = c.trace.ensures t h e (few_symbols m s c.args.n room) (ap reverse c.new-order.ensures) in
    absurd (not_built m (memory c.build.new.store) s.held [] t _ (c.in_err-root.ensures s.held [] s.gone t (at_work m s) x.1 (omega (arith, x.2)) (few_nodes m s)))

pub returns : goal.returns
returns g c s t h e room =
    let m = memory c.args.store.now in
    let x = c.trace.ensures t h e (few_symbols m s c.args.n room) (ap reverse c.new-order.ensures) in
    fetched_of m (memory c.build.new.store) _ s t c.args.n _ c.in_ok-root.root x.2 c.mark.ensures e (c.in_ok-root.ensures s.held [] s.gone t (at_work m s) x.1 (omega (arith, x.2)) (few_nodes m s))
