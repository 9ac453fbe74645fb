use Rattle.std.proofs.Common.{◌≡◌, drop}
use Rattle.lower_units.specs.Faults.{first_fault}
use Rattle.lower_units.specs.Table.{told_at}
use Rattle.lowering.specs.Asked.{asked_in}
use Rattle.lower_units.proofs.faults.first_in_blocks.Given as goal

abbrev pub invariant-loop-block : goal.invariant-loop-block
invariant-loop-block l = first_fault (told_at l.table) (asked_in (drop l.block-index l.blocks)) ≡ first_fault (told_at l.table) (asked_in l.blocks)
