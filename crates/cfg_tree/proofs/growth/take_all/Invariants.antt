use Rattle.std.proofs.Common.{◌≡◌, ◌+◌, length}
use Rattle.std.specs.BinaryHeap.{heap_items}
use Rattle.cfg_tree.specs.Growing.{Growing}
use Rattle.cfg_tree.specs.Walking.{unentered}
use Rattle.cfg_tree.proofs.Further.{offers_left}
use Rattle.cfg_tree.proofs.growth.take_all.Given as goal

abbrev pub invariant-loop-number : goal.invariant-loop-number
invariant-loop-number l = Growing l.edges l.weights l.marks (heap_items l.heap) l.order.items × (length l.order.items + 1 + unentered l.marks ≡ length l.marks)

abbrev pub decreases-loop-number : goal.decreases-loop-number
decreases-loop-number l = offers_left l.edges l.marks (heap_items l.heap)
