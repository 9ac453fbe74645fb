use Rattle.std.proofs.Common.{take}
use Rattle.gen_code.specs.Ends.{AreDegrees}
use Rattle.gen_code.proofs.ends.raise_all.Given as goal

-- the degrees by the edges so far
abbrev pub invariant-loop-edge : goal.invariant-loop-edge
invariant-loop-edge l = AreDegrees l.graph l.end (take l.edge-index l.edges) l.degrees
