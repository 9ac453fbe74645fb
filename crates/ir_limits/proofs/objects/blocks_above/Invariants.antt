use Rattle.std.proofs.Common.{◌≡◌, drop}
use Rattle.std.specs.List.{flat_map}
use Rattle.ir_limits.specs.Objects.{block_arrays, over}
use Rattle.ir_rules.specs.Limits.{function_arrays, global_arrays, instr_arrays}
use Rattle.spec_lists.specs.Each.{first_of}
use Rattle.ir_limits.proofs.objects.blocks_above.Given as goal

abbrev pub invariant-loop-block : goal.invariant-loop-block
invariant-loop-block l = first_of (over (flat_map block_arrays (drop l.block-index l.blocks))) ≡ first_of (over (flat_map block_arrays l.blocks))
