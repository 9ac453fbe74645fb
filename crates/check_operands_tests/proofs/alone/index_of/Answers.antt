use Rattle.std.proofs.Common.{[], refl}
use Rattle.check_operands_tests.proofs.alone.index_of.Goals as goal

pub returns : goal.returns
returns c = c.in_ok-add.ensures.added [] c.new-symbols.ensures refl
