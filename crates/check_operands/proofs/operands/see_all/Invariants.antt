use Rattle.std.proofs.Common.{◌≡◌, take}
use Rattle.std.specs.List.{list_all}
use Rattle.ir_rules.specs.Existing.{exists}
use Rattle.ir_rules.specs.Scopes.{values}
use Rattle.ir_rules.specs.Typing.{fits}
use Rattle.check_operands.proofs.operands.see_all.Given as goal

abbrev pub invariant-loop-one : goal.invariant-loop-one
invariant-loop-one l = record {
  exist : l.all.exist ≡ list_all (λ u. exists l.scope.module.now l.scope.function.now l.allowed u.1) (take l.one-index l.uses);
  fit : l.all.fit ≡ list_all (fits (values l.scope.function.now)) (take l.one-index l.uses);
}
