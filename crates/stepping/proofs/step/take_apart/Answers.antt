use Rattle.std.proofs.Common.{ap, ◌∙◌}
use Rattle.std.proofs.lemmas.Slice.Zip.{Zip-more, either_empty_from_Zip}
use Rattle.std.specs.Slice.Iter.{iter_rest}
use Rattle.std.specs.Iterator.Adapters.{zip_first, zip_second}
use Rattle.node_store.specs.Memory.{memory}
use Rattle.stepping.specs.Parting.{parted}
use Rattle.stepping.proofs.Parting.{parted_next, parted_end}
use Rattle.stepping.proofs.step.take_apart.Goals as goal

pub loop-check-init : goal.loop-check-init
loop-check-init c =
    let i = c.into_iter-check-iterator.ensures.into_iter_gives in
    let a = ap (λ z. iter_rest (zip_first z)) i ∙ ap iter_rest c.zip-check-items.ensures.first ∙ c.iter.ensures.rest ∙ c.deref.ensures.0 in
    let b = ap (λ z. iter_rest (zip_second z)) i ∙ ap iter_rest c.zip-check-items.ensures.second ∙ c.iter-2.ensures.rest ∙ c.deref-2.ensures.0 in
    λ d. parted (memory c.args.store.now) (a d) (b d)

pub loop-check-preserved : goal.loop-check-preserved
loop-check-preserved c =
    let z = Zip-more c.loop-check.check-iterator c.next.new.self _ _ c.in-Some.is c.next.ensures.steps in
    parted_next _ _ _ _ _ _ _ _ _ _ z.0 z.1 c.in-None-symbol.is c.end.ensures.memory c.loop-check.invariant

pub returns : goal.returns
returns c = parted_end _ _ _ _ (either_empty_from_Zip c.loop-check.check-iterator c.next.new.self _ c.in-None.is c.next.ensures.steps) c.loop-check.invariant
