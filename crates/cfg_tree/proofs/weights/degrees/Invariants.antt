use Rattle.std.proofs.Common.{take}
use Rattle.cfg_tree.specs.Incident.{AreDegrees}
use Rattle.cfg_tree.proofs.weights.degrees.Given as goal

-- the degrees by the edges so far
abbrev pub invariant-loop-edge : goal.invariant-loop-edge
invariant-loop-edge l = AreDegrees l.end (take l.edge-index l.edges) l.nodes l.degrees.items
