use Rattle.std.proofs.Common.{rules, ◌∙◌, [], List, Bool, ap, sym, subst, set, true}
use Rattle.std.specs.BinaryHeap.{heap_items}
use Rattle.cfg_tree.specs.Growing.{Growing}
use Rattle.cfg_tree.proofs.Further.{growing_starts}
use Rattle.cfg_tree.proofs.Unique.{first_unreached}
use Rattle.cfg_tree.proofs.growth.order_of.Goals as goal

pub take_all-requires-clause-growing : goal.take_all-requires-clause-growing
take_all-requires-clause-growing c =
    subst (λ (marks : List Bool). Growing c.args.edges.now c.args.weights.now marks (heap_items c.offer_edges.new.heap) []) (c.as_slice.ensures.value ∙ sym c.as_mut_slice.ensures.value)
    (growing_starts c.args.edges.now c.args.weights.now c.args.nodes c.as_slice.result.now (heap_items c.new-heap.result) (heap_items c.offer_edges.new.heap) c.requires.some
    (c.as_slice.ensures.value ∙ ap (λ (marks : List Bool). set marks 0 true) c.in_ok-marks.ensures) c.new-heap.ensures.items c.new-heap.ensures.heap_order c.in_ok-offer_edges.ensures)

pub take_all-requires-clause-first : goal.take_all-requires-clause-first
take_all-requires-clause-first c = first_unreached c.args.nodes _ c.requires.some (search rules)
