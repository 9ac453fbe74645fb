use Rattle.std.proofs.Common.{◌≡◌, take}
use Rattle.ir_code.specs.Resolved.{block_phis}
use Rattle.ir_code.proofs.phis.phis_of_blocks.Given as goal

abbrev pub invariant-loop-block : goal.invariant-loop-block
invariant-loop-block l = l.all.items ≡ block_phis (take l.block-index l.blocks)
