use Rattle.std.proofs.Common.{◌≡◌, drop}
use Rattle.std.specs.List.{flat_map}
use Rattle.ir_limits.specs.Objects.{block_arrays, over}
use Rattle.ir_rules.specs.Limits.{function_arrays, global_arrays, instr_arrays}
use Rattle.spec_lists.specs.Each.{first_of}
use Rattle.ir_limits.proofs.objects.instrs_above.Given as goal

abbrev pub invariant-loop-instr : goal.invariant-loop-instr
invariant-loop-instr l = first_of (over (flat_map instr_arrays (drop l.instr-index l.instrs))) ≡ first_of (over (flat_map instr_arrays l.instrs))
