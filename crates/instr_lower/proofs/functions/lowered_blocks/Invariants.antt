use Rattle.std.proofs.Common.{◌≡◌, map, take}
use Rattle.lowering.specs.Lowered.{lowered_block}
use Rattle.instr_lower.proofs.functions.lowered_blocks.Given as goal

abbrev pub invariant-loop-block : goal.invariant-loop-block
invariant-loop-block l = l.made.items ≡ map lowered_block (take l.block-index l.blocks)
