use Rattle.std.proofs.Common.{◌≡◌, filter_map, drop}
use Rattle.lower_units.specs.Faults.{first_fault}
use Rattle.lower_units.specs.Table.{told_at}
use Rattle.lowering.specs.Asked.{asked}
use Rattle.lower_units.proofs.faults.first_in_instrs.Given as goal

abbrev pub invariant-loop-instr : goal.invariant-loop-instr
invariant-loop-instr l = first_fault (told_at l.table) (filter_map asked (drop l.instr-index l.instrs)) ≡ first_fault (told_at l.table) (filter_map asked l.instrs)
