use Rattle.std.proofs.Common.{◌≡◌, ℕ, ◌<◌, ◌≤◌, slice_index}
use Rattle.flow_solve.specs.Counts.{HasValue}
use Rattle.flow_solve.specs.Ends.{edge_at}
use Rattle.flow_solve.proofs.values.write_values.Given as goal

abbrev pub invariant-loop-k : goal.invariant-loop-k
invariant-loop-k l = record {
  done : (j : ℕ) → j < l.k → HasValue (edge_at l.edges j) (slice_index l.initial.counts j) l.nets (slice_index l.counts j);
  rest : (j : ℕ) → l.k ≤ j → slice_index l.counts j ≡ slice_index l.initial.counts j;
}
