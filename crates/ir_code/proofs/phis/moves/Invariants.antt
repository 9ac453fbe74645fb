use Rattle.std.proofs.Common.{◌≡◌, ◌++◌, drop}
use Rattle.ir_code.specs.Found.{moves_in}
use Rattle.ir_code.proofs.phis.moves.Given as goal

abbrev pub invariant-loop-phi : goal.invariant-loop-phi
invariant-loop-phi l =
    l.moves.items ++ moves_in l.symbols l.registers l.label (drop l.phi-index l.phis) ≡ moves_in l.symbols l.registers l.label l.phis
