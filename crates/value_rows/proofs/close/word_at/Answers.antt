use Rattle.std.specs.Slots.{slots_items}
use Rattle.value_rows.proofs.Filled.{index_at}
use Rattle.value_rows.proofs.close.word_at.Goals as goal

pub returns : goal.returns
returns c = index_at (slots_items c.args.closed.now.words) c.args.at c.word.result c.word.ensures
