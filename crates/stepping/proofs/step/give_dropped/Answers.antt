use Rattle.std.proofs.Common.{ap, ◌∙◌, rules}
use Rattle.std.proofs.lemmas.Slice.Zip.{Zip-more, either_empty_from_Zip}
use Rattle.std.specs.Slice.Iter.{iter_rest}
use Rattle.std.specs.Iterator.Adapters.{zip_first, zip_second}
use Rattle.fixed_vec.specs.FixedVec.{items}
use Rattle.node_store.specs.Memory.{memory}
use Rattle.stepping.specs.Parting.{without}
use Rattle.stepping.proofs.Dropping.{without_next, without_end}
use Rattle.stepping.proofs.step.give_dropped.Goals as goal

pub loop-number-init : goal.loop-number-init
loop-number-init c =
    let i = c.into_iter-number-iterator.ensures.into_iter_gives in
    let a = ap (λ z. iter_rest (zip_first z)) i ∙ ap iter_rest c.zip-number-items.ensures.first ∙ c.iter.ensures.rest ∙ c.deref.ensures.0 in
    let b = ap (λ z. iter_rest (zip_second z)) i ∙ ap iter_rest c.zip-number-items.ensures.second ∙ c.iter-2.ensures.rest ∙ c.deref-2.ensures.0 in
    λ d. without (memory c.args.store.now) (a d) (b d) (items c.args.places.now)

pub loop-number-preserved : goal.loop-number-preserved
loop-number-preserved c =
    let z = Zip-more c.loop-number.number-iterator c.next.new.self _ _ c.in-Some.is c.next.ensures.steps in
    without_next _ _ _ _ _ _ _ _ _ _ _ z.0 z.1 (search rules) c.give.ensures c.loop-number.invariant

pub returns : goal.returns
returns c = without_end _ _ _ _ _ (either_empty_from_Zip c.loop-number.number-iterator c.next.new.self _ c.in-None.is c.next.ensures.steps) c.loop-number.invariant
