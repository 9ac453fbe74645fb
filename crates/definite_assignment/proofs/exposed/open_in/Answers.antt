use Rattle.std.proofs.Common.{rules, length}
use Rattle.definite_assignment.proofs.Opened.{first_lacks}
use Rattle.definite_assignment.proofs.Small.{small_at}
use Rattle.definite_assignment.proofs.exposed.open_in.Goals as goal

pub returns : goal.returns
returns c = first_lacks c.reached_are_marks.ensures c.args.rows.now c.requires.rows c.args.givers.now c.args.c c.in_ok-gives.gives.items c.as_slice-2.result.now c.in_ok-gives.ensures.gives (search rules) (small_at c.args.givers.now (length c.args.rows.now) c.requires.within) c.args.tagged.now c.first_lacking.result c.requires.tagged c.requires.blocks c.first_lacking.ensures
