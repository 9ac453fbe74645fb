use Rattle.std.proofs.Common.{◌≡◌, drop}
use Rattle.ir_rules.specs.Typing.{enter}
use Rattle.check_operands.proofs.types.enter.Given as goal

abbrev pub invariant-loop-index : goal.invariant-loop-index
invariant-loop-index l = enter l.inner (drop l._index-index l.indices) ≡ enter l.mem l.indices
