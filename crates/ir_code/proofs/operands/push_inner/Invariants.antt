use Rattle.std.proofs.Common.{◌≡◌, ◌++◌, drop}
use Rattle.ir_code.specs.Found.{inner_indices_in}
use Rattle.ir_code.proofs.operands.push_inner.Given as goal

abbrev pub invariant-loop-index : goal.invariant-loop-index
invariant-loop-index l =
    l.all.items ++ inner_indices_in l.symbols l.registers l.inner (drop l.index-index l.indices) ≡ l.initial.all.items ++ inner_indices_in l.symbols l.registers l.mem l.indices
