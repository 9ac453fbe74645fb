use Rattle.std.proofs.Common.{take}
use Rattle.ir_tree.specs.Blocks.{labels}
use Rattle.ir_code.specs.Names.{AreNumbered}
use Rattle.ir_code.proofs.resolving.number_labels.Given as goal

abbrev pub invariant-loop-block : goal.invariant-loop-block
invariant-loop-block l = AreNumbered l.numbers (labels (take l.block-index l.blocks))
