use Rattle.ir_grammar.proofs.Ends.{module_ends}
use Rattle.ir_grammar.proofs.module_ends.Goals as goal

pub returns : goal.returns
returns c = module_ends
