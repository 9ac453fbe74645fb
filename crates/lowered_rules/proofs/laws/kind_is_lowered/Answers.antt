use Rattle.lowered_rules.proofs.Symbols.{kind_is}
use Rattle.lowered_rules.proofs.laws.kind_is_lowered.Goals as goal

pub returns : goal.returns
returns c m = kind_is m
