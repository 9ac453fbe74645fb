use Rattle.check_names.proofs.Blocks.{room_label, within_few}
use Rattle.check_names.proofs.distinct.repeated_in_block.Goals as goal

pub add-requires : goal.add-requires
add-requires c = record { room = room_label c.args.f.now c.args.b c.args.block.now c.args.seen.now c.requires.few c.requires.block c.requires.seen }

pub item_place-requires-clause-block : goal.item_place-requires-clause-block
item_place-requires-clause-block c = within_few c.args.f.now c.args.b c.args.block.now c.requires.few c.requires.block
