-- Each defined function of a plain module has an increment.
use Rattle.std.proofs.Common.{◌≡◌, ℕ, zero, suc, ◌<◌, ◌≤◌, ◌==◌, Bool, false, List, [], ◌∷◌, ◌++◌, length, Some, slice_get, refl, arith}
use Rattle.std.specs.List.{flat_map}
use Rattle.std.proofs.lemmas.Bool.{eq-eqb}
use Rattle.cfg_edges.specs.Graph.{EdgesStand, IsFlowGraph, NodesStand}
use Rattle.cfg_tree.specs.Tree.{IsTreeOf, tree_of}
use Rattle.gen_asks.proofs.Listed.{among_at, has_place}
use Rattle.gen_asks.proofs.Placed.{some_risen}
use Rattle.gen_asks.proofs.Spare.{spare}
use Rattle.gen_asks.proofs.Units.{asked_here}
use Rattle.gen_asks.specs.Asks.{counters_of}
use Rattle.gen_plan.specs.Countable.{CanCount}
use Rattle.gen_plan.specs.Gen.{counted, counted_edges, gen_hash, record_name}
use Rattle.ir_rules.specs.Accepted.{IsAccepted}
use Rattle.ir_rules.specs.Kinds.{kind_of}
use Rattle.ir_rules.specs.Lists.{Among, times}
use Rattle.ir_rules.specs.Scopes.{block_names, param_names}
use Rattle.ir_rules.specs.declared.place.Kind.TheVariants.{Plain}
use Rattle.ir_tree.specs.Blocks.{labels}
use Rattle.ir_tree.specs.Functions.{is_declared}
use Rattle.ir_tree.specs.Graphs.{FlowGraph, HasGraph, graph_of, nodes}
use Rattle.ir_tree.specs.Names.{same}
use Rattle.ir_tree.specs.Operands.{result_names}
use Rattle.ir_tree.specs.declared.types.Block.{Block}
use Rattle.ir_tree.specs.declared.types.Function.{Function}
use Rattle.ir_tree.specs.declared.types.Module.{Module}
use Rattle.ir_tree.specs.declared.types.Operand.TheVariants.{Int}
use Rattle.lowering.specs.Asked.{Rise, all_asked}
use Rattle.spec_items.proofs.Items.{count_cons, count-append}

item_there : {X : Type 0} (xs : List X) (i : ℕ) → i < length xs → (x : X) × (slice_get xs i ≡ Some x)
item_there [] i h = absurd (omega (arith, h))
item_there (x ∷ xs) zero h = (x, refl)
item_there (x ∷ xs) (suc i) h = item_there xs i (omega (arith, h))

-- the labels are among the names
labels_fewer : (n : List ℕ) (bs : List Block) → times n (labels bs) ≤ times n (flat_map block_names bs)
labels_fewer n [] = omega arith
labels_fewer n (b ∷ bs) =
    let rest = labels_fewer n bs in
    let a = count_cons (same n) b.label (labels bs) in
    let c = count_cons (same n) b.label (result_names b.instrs ++ flat_map block_names bs) in
    let d = count-append (same n) (result_names b.instrs) (flat_map block_names bs) in
    omega (arith, rest, a, c, d)

module _ (entry_first : Bool) (m : Module) (accepted : IsAccepted m) (plain : kind_of m.functions ≡ Plain) (can : CanCount m) (whole : (f : Function) → HasGraph f → IsFlowGraph (graph_of f)) (edges : (f : Function) → HasGraph f → EdgesStand f (graph_of f)) (stand : (f : Function) → HasGraph f → NodesStand f (graph_of f)) (trees : (g : FlowGraph) (entry_first : Bool) → IsFlowGraph g → IsTreeOf g entry_first (tree_of g entry_first)) where
  pub rises : (f : Function) → Among f m.functions → is_declared f ≡ false → (counter : ℕ) × Among (Rise (record_name f.name) (gen_hash entry_first f) (counters_of entry_first f) counter (Int 1)) (all_asked (counted entry_first m))
  rises f at defined =
      let spot = among_at m.functions f at in
      let has : HasGraph f = can.graphs spot.0 f spot.1 defined in
      let flow : IsFlowGraph (graph_of f) = whole f has in
      let tree : IsTreeOf (graph_of f) entry_first (tree_of (graph_of f) entry_first) = trees (graph_of f) entry_first flow in
      let edge = spare (graph_of f).edges (nodes (graph_of f)) (λ k e there. ((flow.sound k e there).leaves, (flow.sound k e there).enters)) (tree_of (graph_of f) entry_first).order (omega arith) flow.enough tree.spans in
      let e = item_there (graph_of f).edges edge.0 edge.1 in
      let rank = has_place (λ (c : ℕ). c == edge.0) (counted_edges entry_first f) edge.0 (tree.beside.outside edge.0 edge.1 edge.2) (eq-eqb edge.0 edge.0 refl) in
      let risen = some_risen f (graph_of f) (counted_edges entry_first f) (gen_hash entry_first f) (record { whole = flow; edges = edges f has; nodes = stand f has }) (λ b here. ((accepted.formed.function f at).block b here).exit.targets) (λ n. once n) edge.0 e.0 e.1 rank.0 rank.1 in
      (risen.0, asked_here entry_first m accepted plain spot.0 f spot.1 (Rise (record_name f.name) (gen_hash entry_first f) (counters_of entry_first f) risen.0 (Int 1)) risen.1)
    where
      once : (n : List ℕ) → times n (labels f.blocks) ≤ 1
      once n =
          let a = (accepted.formed.function f at).distinct defined n in
          let b = labels_fewer n f.blocks in
          let c = count-append (same n) (param_names f) (flat_map block_names f.blocks) in
          omega (arith, a, b, c)
