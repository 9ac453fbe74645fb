use Rattle.ir_rules.proofs.Resolved.{kept_resolved}
use Rattle.ir_rules.proofs.laws.kept_are_resolved.Goals as goal

pub returns : goal.returns
returns c = λ m k f apart known matched defined few. kept_resolved m f k apart known matched defined few
