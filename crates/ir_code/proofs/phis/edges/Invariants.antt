use Rattle.std.proofs.Common.{◌≡◌, map, take}
use Rattle.ir_tree.specs.Successors.{successors}
use Rattle.ir_code.specs.Found.{edge_in}
use Rattle.ir_code.proofs.phis.edges.Given as goal

abbrev pub invariant-loop-position : goal.invariant-loop-position
invariant-loop-position l =
    l.edges.items ≡ map (edge_in l.symbols l.registers l.labels l.phis l.label) (take l.position (successors l.term))
