use Rattle.std.proofs.Common.{◌≡◌, false, take}
use Rattle.std.specs.List.{list_all}
use Rattle.ir_rules.specs.Existing.{exists}
use Rattle.ir_rules.specs.Scopes.{values}
use Rattle.ir_rules.specs.Typing.{fits}
use Rattle.ir_tree.specs.Operands.{operands}
use Rattle.check_operands.proofs.operands.see_operands.Given as goal

abbrev pub invariant-loop-place : goal.invariant-loop-place
invariant-loop-place l = record {
  exist : l.all.exist ≡ list_all (λ u. exists l.scope.module.now l.scope.function.now false u.1) (take l.place (operands l.instr));
  fit : l.all.fit ≡ list_all (fits (values l.scope.function.now)) (take l.place (operands l.instr));
}
