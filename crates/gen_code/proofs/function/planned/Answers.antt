use Rattle.std.proofs.Common.{◌+◌, ◌==◌, not, List, [], ◌∷◌, ℕ, length, sym, ap, subst, ◌∙◌}
use Rattle.cfg_edges.specs.Graph.{NodesStand}
use Rattle.cfg_tree.specs.Tree.{tree_of}
use Rattle.gen_code.proofs.Planning.{planned_is}
use Rattle.gen_code.proofs.Within.{heads_within, tails_within}
use Rattle.gen_plan.specs.Gen.{gen_block}
use Rattle.ir_tree.specs.Graphs.{FlowGraph}
use Rattle.spanning_order.specs.Lists.{Among}
use Rattle.spanning_order.specs.declared.tree.Tree.{Tree}
use Rattle.spec_lists.specs.Each.{each}
use Rattle.gen_code.proofs.function.planned.Goals as goal

pub of_function-requires-clause-tails : goal.of_function-requires-clause-tails
of_function-requires-clause-tails c = tails_within c.args.function.now c.in_ok-graph.graph c.in_ok-graph.ensures.edges

pub of_function-requires-clause-heads : goal.of_function-requires-clause-heads
of_function-requires-clause-heads c =
    heads_within c.args.function.now c.in_ok-graph.graph (subst (λ (g : FlowGraph). NodesStand c.args.function.now g) (sym c.in_ok-graph.ensures.graph) (c.graphs_stand.ensures.nodes c.args.function.now c.requires.graph))

pub of_function-requires-clause-within : goal.of_function-requires-clause-within
of_function-requires-clause-within c k a = c.in_ok-tree.ensures.beside.edges_only k (subst (λ (ks : List ℕ). Among k ks) c.as_slice-counted.ensures a)

pub returns-clause-plan : goal.returns-clause-plan
returns-clause-plan c =
    let f = c.args.function.now in
    let e = c.args.entry_first in
    let parts = c.in_ok-parts.ensures in
    planned_is e f c.in_ok-graph.graph c.as_slice-counted.result.now _ _ _ _ c.in_ok-graph.ensures.graph
    (c.as_slice-counted.ensures ∙ ap (λ (t : Tree). t.counted) c.in_ok-tree.ensures.value ∙ ap (λ (g : FlowGraph). (tree_of g e).counted) c.in_ok-graph.ensures.graph)
    c.in_ok-record_name.ensures
    (ap (λ (ps : List (ℕ × ℕ)). length c.as_slice-counted.result.now + length ps) c.selects.ensures.value)
    c.in_ok-function_hash.ensures
    (c.in_ok-block_plans.ensures ∙ (λ i. each (λ b block. gen_block (parts.function i) (parts.graph i) (parts.counted i) b block ∷ []) 0 ((parts.function i).blocks)))

pub returns-clause-selects : goal.returns-clause-selects
returns-clause-selects c =
    ap not (c.is_empty.ensures ∙ ap (λ (ps : List (ℕ × ℕ)). length ps == 0) (c.selects-2.ensures.value ∙ ap (λ (g : FlowGraph). g.selects) c.in_ok-graph.ensures.graph))
