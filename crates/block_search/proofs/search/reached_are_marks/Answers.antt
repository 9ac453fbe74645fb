use Rattle.block_search.proofs.Rounds.{reached_marks}
use Rattle.block_search.proofs.search.reached_are_marks.Goals as goal

pub returns : goal.returns
returns c rows graph = reached_marks rows graph
