use Rattle.std.proofs.Common.{◌≡◌, ◌+◌, ◌++◌, drop}
use Rattle.std.specs.Prelude.{sum_by}
use Rattle.ir_tree.specs.Functions.{numbered}
use Rattle.ir_tree.specs.Edges.{edges_in}
use Rattle.ir_machine.specs.Slots.{all_slots}
use Rattle.ir_machine.proofs.slots.number_functions.Given as goal

abbrev pub invariant-loop-function : goal.invariant-loop-function
invariant-loop-function l =
    (l.slots.items ++ all_slots l.next (numbered (drop l.function-index l.functions)) ≡ all_slots 0 (numbered l.functions))
    × (l.next + sum_by edges_in (numbered (drop l.function-index l.functions)) ≡ sum_by edges_in (numbered l.functions))
