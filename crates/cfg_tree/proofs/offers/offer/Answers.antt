use Rattle.std.specs.BinaryHeap.{heap_items}
use Rattle.cfg_tree.proofs.Offered.{pushed}
use Rattle.cfg_tree.proofs.offers.offer.Goals as goal

pub returns-in_ok-push : goal.returns-in_ok-push
returns-in_ok-push c = pushed c.args.edges.now c.args.weights.now c.args.marks.now c.args.edge (heap_items c.args.heap.now) (heap_items c.push.new.self) c.in_ok-push.ensures.permutation c.in_ok-push.ensures.heap_order
