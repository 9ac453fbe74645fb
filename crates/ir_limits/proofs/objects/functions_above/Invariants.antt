use Rattle.std.proofs.Common.{◌≡◌, drop}
use Rattle.std.specs.List.{flat_map}
use Rattle.ir_limits.specs.Objects.{block_arrays, over}
use Rattle.ir_rules.specs.Limits.{function_arrays, global_arrays, instr_arrays}
use Rattle.spec_lists.specs.Each.{first_of}
use Rattle.ir_limits.proofs.objects.functions_above.Given as goal

abbrev pub invariant-loop-f : goal.invariant-loop-f
invariant-loop-f l = first_of (over (flat_map function_arrays (drop l.f-index l.functions))) ≡ first_of (over (flat_map function_arrays l.functions))
