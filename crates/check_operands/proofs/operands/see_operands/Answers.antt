use Rattle.std.proofs.Common.{false}
use Rattle.check_operands.proofs.ByPlace.{one_more}
use Rattle.ir_rules.specs.Existing.{exists}
use Rattle.ir_rules.specs.Scopes.{values}
use Rattle.ir_rules.specs.Typing.{fits}
use Rattle.ir_tree.specs.Operands.{Use, operands}
use Rattle.check_operands.proofs.operands.see_operands.Goals as goal

pub loop-place-preserved : goal.loop-place-preserved
loop-place-preserved c =
    let us = operands c.args.instr.now in
    record {
      exist = one_more (λ (u : Use). exists c.args.scope.now.module.now c.args.scope.now.function.now false u.1) us c.loop-place.place _ c.loop-place.all.exist c.see_found.result.exist c.both-all.result.exist c.operand.ensures c.loop-place.invariant.exist c.see_found.ensures.exist c.both-all.ensures.exist;
      fit = one_more (fits (values c.args.scope.now.function.now)) us c.loop-place.place _ c.loop-place.all.fit c.see_found.result.fit c.both-all.result.fit c.operand.ensures c.loop-place.invariant.fit c.see_found.ensures.fit c.both-all.ensures.fit;
    }
