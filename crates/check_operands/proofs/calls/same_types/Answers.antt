use Rattle.std.proofs.Common.{sym}
use Rattle.check_operands.proofs.TypeLists.{unequal}
use Rattle.check_operands.proofs.calls.same_types.Goals as goal

pub returns-then-args-params : goal.returns-then-args-params
returns-then-args-params c = sym (unequal c.args.args.now c.args.params.now c.if-args-params.true)
