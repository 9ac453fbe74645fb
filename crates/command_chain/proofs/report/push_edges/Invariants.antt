use Rattle.std.proofs.Common.{◌≡◌, ◌++◌, drop}
use Rattle.command_chain.specs.Counted.{counted_at}
use Rattle.command_chain.specs.Report.{edge_lines}
use Rattle.command_chain.proofs.report.push_edges.Given as goal

-- the lines of the edges that are left, behind what was put, are those of all
abbrev pub invariant-loop-index : goal.invariant-loop-index
invariant-loop-index l =
    l.out.items ++ edge_lines (counted_at l.code l.counts l.number) l.blocks l.graph l.index (drop l.index l.edge-items)
    ≡ l.initial.out.items ++ edge_lines (counted_at l.code l.counts l.number) l.blocks l.graph 0 l.edge-items
