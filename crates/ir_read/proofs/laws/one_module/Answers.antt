use Rattle.ir_read.proofs.Whole.{text_once}
use Rattle.ir_read.proofs.laws.one_module.Goals as goal

pub returns : goal.returns
returns c = text_once c.tokens_are_unique.ensures c.one_module.ensures
