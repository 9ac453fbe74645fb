use Rattle.std.proofs.Common.{◌≡◌, ◌++◌, ◌+◌, ◌<◌, ◌^◌, length}
use Rattle.count_plan.specs.Counted.{counted_from}
use Rattle.std.specs.Vec.Iter.{into_iter_items, into_iter_len}
use Rattle.count_insert.proofs.calls.push_counted.Given as goal

abbrev pub invariant-loop-instr : goal.invariant-loop-instr
invariant-loop-instr l =
    (l.made.items ++ counted_from l.unit l.plan l.i (into_iter_items l.instr-iterator) ≡ l.initial.made.items ++ counted_from l.unit l.plan 0 l.fn.instrs.items)
    × (into_iter_len l.instr-iterator ≡ length (into_iter_items l.instr-iterator))
    × (l.i + into_iter_len l.instr-iterator < 2 ^ 64)
