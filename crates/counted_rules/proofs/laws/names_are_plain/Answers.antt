use Rattle.counted_rules.proofs.PlainNames.{names_plain}
use Rattle.counted_rules.proofs.laws.names_are_plain.Goals as goal

pub returns : goal.returns
returns c m formed plain n at = names_plain m formed plain n at
