use Rattle.check_operands_tests.proofs.Single.{plain}
use Rattle.check_operands_tests.proofs.alone.judge.Goals as goal

pub first_in_operands-requires-clause-kind : goal.first_in_operands-requires-clause-kind
first_in_operands-requires-clause-kind c = plain c.in_ok-module.module c.args.other c.in_ok-module.ensures c.requires.other
