use Rattle.std.proofs.Common.{length}
use Rattle.cfg_tree.specs.Walking.{Walking}
use Rattle.cfg_tree.proofs.Stacks.{looks_left}
use Rattle.cfg_tree.proofs.walk.go_on.Given as goal

abbrev pub invariant-loop-node : goal.invariant-loop-node
invariant-loop-node l = Walking l.edges (length l.initial.walk.entered) l.walk l.stack.items

abbrev pub decreases-loop-node : goal.decreases-loop-node
decreases-loop-node l = looks_left l.edges l.walk.entered l.stack.items
