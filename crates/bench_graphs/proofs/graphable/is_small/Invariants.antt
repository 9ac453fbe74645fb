use Rattle.std.proofs.Common.{◌≡◌, ◌+◌, ◌≤◌, take, sum_by}
use Rattle.ir_tree.specs.Successors.{ways_out}
use Rattle.bench_graphs.proofs.graphable.is_small.Given as goal

abbrev pub invariant-loop-block : goal.invariant-loop-block
invariant-loop-block l = (l.sum ≡ 1 + sum_by ways_out (take l.block-index l.blocks)) × (l.sum ≤ 4294967295)
