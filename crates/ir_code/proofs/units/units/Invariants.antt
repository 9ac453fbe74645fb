use Rattle.std.proofs.Common.{take}
use Rattle.ir_code.specs.Tallied.{AreTallied}
use Rattle.ir_code.proofs.units.units.Given as goal

abbrev pub invariant-loop-global : goal.invariant-loop-global
invariant-loop-global l = AreTallied l.units l.globals (take l.global-index l.globals)
