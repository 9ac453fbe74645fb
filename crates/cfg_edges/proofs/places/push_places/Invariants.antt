use Rattle.std.proofs.Common.{◌≡◌, ◌++◌, drop}
use Rattle.ir_tree.specs.Graphs.{places_from}
use Rattle.cfg_edges.specs.Sought.{is_sought}
use Rattle.cfg_edges.proofs.places.push_places.Given as goal

abbrev pub invariant-loop-item : goal.invariant-loop-item
invariant-loop-item l = l.found.items ++ places_from (is_sought l.sought) l.number l.item (drop l.item l.instrs) ≡ l.initial.found.items ++ places_from (is_sought l.sought) l.number 0 l.instrs
