use Rattle.std.proofs.Common.{◌≡◌, ◌∙◌, sym}
use Rattle.bench_graphs.proofs.Had.{graph_at}
use Rattle.bench_graphs.proofs.graphable.has_graph.Goals as goal

pub returns : goal.returns
returns c h =
    let all = c.are_all.ensures h in
    graph_at c.args.function.now c.in_ok-index.index c.as_slice-blocks.result.now c.as_slice-blocks.ensures c.in_ok-index.ensures all.0 (sym c.targets_are_blocks-targets.ensures ∙ all.1) (c.is_small-small.ensures all.2) (sym c.are_empty-empty.ensures ∙ all.3)
