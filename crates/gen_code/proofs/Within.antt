-- The blocks at the ends of a graph's edges are blocks of its function.
use Rattle.std.proofs.Common.{ℕ, length, Option, subst}
use Rattle.std.proofs.lemmas.Option.{slice_get_within}
use Rattle.cfg_edges.specs.Graph.{EdgesStand, NodesStand, Stands}
use Rattle.gen_code.specs.Ends.{AreWithin}
use Rattle.gen_code.specs.declared.ends.End.TheVariants.{Tail, Head}
use Rattle.ir_tree.specs.Graphs.{FlowGraph}
use Rattle.ir_tree.specs.declared.types.Function.{Function}

module _ (f : Function) (g : FlowGraph) where
  pub tails_within : EdgesStand f g → AreWithin g Tail (length f.blocks)
  tails_within stand k e b at leaves = (subst (λ (o : Option ℕ). Stands f g e o) leaves (stand k e at)).within

  pub heads_within : NodesStand f g → AreWithin g Head (length f.blocks)
  heads_within stand k e b at enters = let n = stand e.to b enters in slice_get_within f.blocks b n.block n.at
