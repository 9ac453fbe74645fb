-- The traversals of returned calls balance.
use Rattle.std.proofs.Common.{◌≡◌, ℕ, List, [], ◌∷◌, Some, refl, sym, ◌∙◌, ap}
use Rattle.std.specs.Prelude.{slice_get}
use Rattle.std.proofs.lemmas.Option.{same_Some}
use Rattle.ir_tree.specs.Edges.{block_place}
use Rattle.ir_tree.specs.Flows as flows
use Rattle.ir_tree.specs.Graphs.{graph_of}
use Rattle.ir_tree.specs.declared.types.Block.{Block}
use Rattle.ir_tree.specs.declared.types.Function.{Function}
use Rattle.ir_tree.specs.declared.types.Module.{Module}
use Rattle.ir_model.specs.Log.{AreBalanced, HasReturned, log_of, traversals}
use Rattle.ir_model.specs.Run.{run_of}
use Rattle.ir_tree.specs.Functions.{function_at}
use Rattle.ir_model.specs.declared.result.Call.{Call}
use Rattle.cfg_edges.specs.Graph.{EachHasEdge, EdgesStand, IsFlowGraph, NodesStand, SuccessorsAreReached}
use Rattle.walk_flow.specs.Traversed.{AllReturn, edge_traversals, traversals_at, traversals_of_edge}
use Rattle.walk_flow.proofs.Ends.{walks_balance}
use Rattle.walk_flow.proofs.Sums.{Balances, balances_add, balances_none, flow_is}
use Rattle.walk_flow.proofs.Ways.{call_ways}

module _ (m : Module) (k : ℕ) (f : Function) (at : function_at m k ≡ Some f) (whole : IsFlowGraph (graph_of f)) (stand : EdgesStand f (graph_of f)) (each : EachHasEdge f (graph_of f)) (named : NodesStand f (graph_of f)) (reach : SuccessorsAreReached f)
    (n : ℕ) (returned : (c : Call) → HasReturned (run_of m c n) → AreBalanced m (log_of (run_of m c n))) where
  -- the first block's label names it
  first : (b : Block) (bs : List Block) → f.blocks ≡ b ∷ bs → block_place f.blocks b.label ≡ Some 0
  first b bs is =
      let q = named 1 0 whole.entry in
      let same : b ≡ q.block = same_Some b q.block (ap (λ (xs : List Block). slice_get xs 0) (sym is) ∙ q.at) in
      ap (λ (x : Block). block_place f.blocks x.label) same ∙ q.named

  all_balance : (calls : List Call) → AllReturn m calls n → Balances (graph_of f).edges (traversals_of_edge m k calls n)
  all_balance [] all = balances_none (graph_of f).edges (traversals_of_edge m k [] n) (λ e. refl)
  all_balance (c ∷ cs) all =
      balances_add (λ e. traversals m k e.block e.position c n) (traversals_of_edge m k cs n) (traversals_of_edge m k (c ∷ cs) n) (graph_of f).edges (λ e. refl)
      (walks_balance m k f at (graph_of f) whole stand each named reach (log_of (run_of m c n)) (call_ways m k f at reach first c n all.0) (returned c all.0))
      (all_balance cs all.1)

  pub calls_flow : (calls : List Call) → AllReturn m calls n → flows.IsFlow (graph_of f).edges (edge_traversals m k f calls n)
  calls_flow calls all =
      flow_is (graph_of f).edges (traversals_of_edge m k calls n) (edge_traversals m k f calls n) (λ j e there. ap (λ o. traversals_at m k calls n o) there) (all_balance calls all)
