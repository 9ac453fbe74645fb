use Rattle.cfg_tree.proofs.Whole.{is_tree}
use Rattle.cfg_tree.proofs.laws.trees_span.Goals as goal

pub returns : goal.returns
returns c = is_tree
