use Rattle.ir_check.proofs.faults.first_in.Goals as goal

pub returns-then-is_declared : goal.returns-then-is_declared
returns-then-is_declared c = c.first_in_declared.ensures c.args.«module».now
