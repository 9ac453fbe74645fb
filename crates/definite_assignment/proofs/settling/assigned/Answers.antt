use Rattle.std.proofs.Common.{rules}
use Rattle.definite_assignment.proofs.Turns.{started_as}
use Rattle.definite_assignment.proofs.settling.assigned.Goals as goal

pub settle-requires-clause-narrowing : goal.settle-requires-clause-narrowing
settle-requires-clause-narrowing c = started_as c.args.rows.now c.args.gives.now c.requires.rows c.as_mut_slice.result.now c.in_ok-work.work.items (search rules) (search rules)
