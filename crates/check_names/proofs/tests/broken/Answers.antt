use Rattle.std.proofs.Common.{sym, ◌∙◌}
use Rattle.check_names.proofs.Firsts.{none_first}
use Rattle.ir_rules.specs.Limits.{passed}
use Rattle.check_names.proofs.tests.broken.Goals as goal

pub first_of_names-requires : goal.first_of_names-requires
first_of_names-requires c = record { within = none_first (passed c.args.module.now) (sym c.passed.ensures ∙ c.in-None.is) }
