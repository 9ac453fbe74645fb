use Rattle.std.proofs.Common.{◌≡◌, ℕ, ◌<◌, slice_index}
use Rattle.spanning_order.specs.Lists.{Among}
use Rattle.flow_solve.proofs.counters.write_counters.Given as goal

abbrev pub invariant-loop-c : goal.invariant-loop-c
invariant-loop-c l = record {
  done : (i : ℕ) → i < l.c → slice_index l.counts (slice_index l.counted i) ≡ slice_index l.counters i;
  others : (k : ℕ) → (Among k l.counted → ⊥) → slice_index l.counts k ≡ slice_index l.initial.counts k;
}
