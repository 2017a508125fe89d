use Rattle.compiling.proofs.Sides.{few_symbols}
use Rattle.compiling.proofs.Walking.{room_at_first, all_outlined}
use Rattle.compiling.proofs.outline.Outline.of.Goals as goal

pub add_arguments-requires : goal.add_arguments-requires
add_arguments-requires c =
    let at = c.root-place.ensures in
    room_at_first _ _ _ at.stands (few_symbols c.args.side.now) _ at.low _ c.new.ensures c.new-2.ensures

pub returns : goal.returns
returns c =
    let at = c.root-place.ensures in
    all_outlined _ _ _ at.stands _ _ (c.at-root.ensures _ at.stands) c.new.ensures c.new-2.ensures c.add_arguments.ensures
