use Rattle.std.proofs.Common.{◌≡◌, ◌++◌, drop}
use Rattle.ir_tree.specs.Graphs.{places_of}
use Rattle.cfg_edges.specs.Sought.{is_sought}
use Rattle.cfg_edges.proofs.places.places.Given as goal

abbrev pub invariant-loop-number : goal.invariant-loop-number
invariant-loop-number l = l.found.items ++ places_of (is_sought l.sought) l.blocks (drop l.number-index l.reachable) ≡ places_of (is_sought l.sought) l.blocks l.reachable
