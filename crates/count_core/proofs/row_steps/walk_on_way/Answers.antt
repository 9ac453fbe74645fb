use Rattle.count_core.proofs.Ready.{ways_of}
use Rattle.count_core.proofs.row_steps.walk_on_way.Goals as goal

pub returns-clause-way : goal.returns-clause-way
returns-clause-way c = ways_of c.args.state.now c.args.seat c.walk_of.result c.requires c.walk_of.ensures
