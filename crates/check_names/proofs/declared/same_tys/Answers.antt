use Rattle.std.proofs.Common.{sym}
use Rattle.check_names.proofs.Types.{unequal}
use Rattle.check_names.proofs.declared.same_tys.Goals as goal

pub returns-then-types-params : goal.returns-then-types-params
returns-then-types-params c = sym (unequal c.args.types.now c.args.params.now c.if-types-params.true)
