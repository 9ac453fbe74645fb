use Rattle.ir_rules.proofs.Given.{edge_has_entry}
use Rattle.ir_rules.proofs.laws.edges_have_entries.Goals as goal

pub returns : goal.returns
returns c = edge_has_entry
