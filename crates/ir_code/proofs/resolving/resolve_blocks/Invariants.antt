use Rattle.std.proofs.Common.{◌≡◌, map, take}
use Rattle.ir_code.specs.Found.{block_in}
use Rattle.ir_code.proofs.resolving.resolve_blocks.Given as goal

abbrev pub invariant-loop-block : goal.invariant-loop-block
invariant-loop-block l =
    l.codes.items ≡ map (block_in l.symbols l.registers l.labels l.phis) (take l.block-index l.blocks)
