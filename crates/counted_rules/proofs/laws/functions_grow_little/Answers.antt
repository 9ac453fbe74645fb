use Rattle.counted_rules.proofs.Grown.{grows_little}
use Rattle.counted_rules.proofs.laws.functions_grow_little.Goals as goal

pub returns : goal.returns
returns c unit f = grows_little unit f
