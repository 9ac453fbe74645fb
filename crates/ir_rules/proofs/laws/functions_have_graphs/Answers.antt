use Rattle.ir_rules.proofs.Given.{has_graph}
use Rattle.ir_rules.proofs.laws.functions_have_graphs.Goals as goal

pub returns : goal.returns
returns c = has_graph
