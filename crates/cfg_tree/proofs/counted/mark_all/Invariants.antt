use Rattle.std.proofs.Common.{take}
use Rattle.cfg_tree.specs.Marked.{AreAmong}
use Rattle.cfg_tree.proofs.counted.mark_all.Given as goal

abbrev pub invariant-loop-number : goal.invariant-loop-number
invariant-loop-number l = AreAmong (take l.number-index l.order) l.marks
