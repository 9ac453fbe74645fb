use Rattle.std.proofs.Common.{◌≡◌, map, take}
use Rattle.ir_memory.specs.declared.value.Value.TheVariants as value
use Rattle.ir_machine.proofs.run.values.Given as goal

abbrev pub invariant-loop-arg : goal.invariant-loop-arg
invariant-loop-arg l = l.values.items ≡ map value.Int (take l.arg-index l.args)
