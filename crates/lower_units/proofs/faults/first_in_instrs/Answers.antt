use Rattle.std.proofs.Common.{◌∙◌}
use Rattle.lower_units.proofs.Searching.{instr_found, instr_past}
use Rattle.lower_units.specs.Faults.{shown}
use Rattle.lower_units.specs.Table.{told_at}
use Rattle.lower_units.proofs.faults.first_in_instrs.Goals as goal

pub returns-in-Some : goal.returns-in-Some
returns-in-Some c =
    instr_found (told_at c.args.table.now) c.args.instrs.now c.loop-instr.instr-index c.instr-item.result (shown c.in-Some.fault) c.loop-instr-test.true c.instr-item.is c.in-Some.ensures ∙ c.loop-instr.invariant

pub loop-instr-preserved : goal.loop-instr-preserved
loop-instr-preserved c =
    instr_past (told_at c.args.table.now) c.args.instrs.now c.loop-instr.instr-index c.instr-item.result c.loop-instr-test.true c.instr-item.is c.in_default.ensures ∙ c.loop-instr.invariant
