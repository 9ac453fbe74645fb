use Rattle.std.proofs.Common.{length}
use Rattle.std.specs.BinaryHeap.{heap_items}
use Rattle.cfg_tree.specs.Chains.{IsPlace, from_place}
use Rattle.cfg_tree.specs.Incident.{numbers_at}
use Rattle.cfg_tree.specs.Offers.{Offers}
use Rattle.cfg_tree.proofs.offers.offer_chain.Given as goal

-- the edges from the place on are not offered yet
abbrev pub invariant-loop-place : goal.invariant-loop-place
invariant-loop-place g l = record {
  is_place : IsPlace g.end l.edges l.node l.place;
  offers : Offers l.edges l.weights l.marks (numbers_at g.end 0 l.edges l.node) (from_place g.end l.edges l.node l.place) (heap_items l.initial.heap) (heap_items l.heap);
}

abbrev pub decreases-loop-place : goal.decreases-loop-place
decreases-loop-place g l = length (from_place g.end l.edges l.node l.place)
