use Rattle.ir_tree.specs.Graphs.{graph_of}
use Rattle.cfg_tree.specs.Tree.{tree_of}
use Rattle.solved_back.proofs.Back.{solved_back}
use Rattle.solved_back.proofs.laws.traversals_are_solved_back.Goals as goal

pub returns-clause-any : goal.returns-clause-any
returns-clause-any c m k f calls n order counted at graph all spans beside =
    solved_back m k f calls n order counted (c.graphs_stand.ensures.whole f graph) (c.traversals_are_a_flow.ensures m k f calls n at graph all) spans beside c.counters_have_one_flow.ensures

pub returns-clause-tree : goal.returns-clause-tree
returns-clause-tree c m k f calls n entry_first at graph all =
    let whole = c.graphs_stand.ensures.whole f graph in
    let tree = c.trees_span.ensures (graph_of f) entry_first whole in
    solved_back m k f calls n (tree_of (graph_of f) entry_first).order (tree_of (graph_of f) entry_first).counted whole (c.traversals_are_a_flow.ensures m k f calls n at graph all) tree.spans tree.beside c.counters_have_one_flow.ensures
