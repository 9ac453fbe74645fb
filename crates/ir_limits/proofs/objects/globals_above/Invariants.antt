use Rattle.std.proofs.Common.{◌≡◌, drop}
use Rattle.std.specs.List.{flat_map}
use Rattle.ir_limits.specs.Objects.{block_arrays, over}
use Rattle.ir_rules.specs.Limits.{function_arrays, global_arrays, instr_arrays}
use Rattle.spec_lists.specs.Each.{first_of}
use Rattle.ir_limits.proofs.objects.globals_above.Given as goal

abbrev pub invariant-loop-g : goal.invariant-loop-g
invariant-loop-g l = first_of (over (flat_map (global_arrays l.kind) (drop l.g-index l.globals))) ≡ first_of (over (flat_map (global_arrays l.kind) l.globals))
