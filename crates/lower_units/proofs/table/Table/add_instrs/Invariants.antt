use Rattle.std.proofs.Common.{◌≡◌, ℕ, List, filter_map, take}
use Rattle.lower_units.specs.Table.{told_at}
use Rattle.lower_units.specs.Told.{told_after}
use Rattle.lowering.specs.Asked.{asked}
use Rattle.lower_units.proofs.table.Table.add_instrs.Given as goal

abbrev pub invariant-loop-instr : goal.invariant-loop-instr
invariant-loop-instr l = (q : List ℕ) → told_at l.self q ≡ told_after q (told_at l.initial.self q) (filter_map asked (take l.instr-index l.instrs))
