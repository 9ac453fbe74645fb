use Rattle.std.proofs.Common.{◌≡◌, ℕ, take}
use Rattle.gen_code.specs.Ends.{block_counter}
use Rattle.gen_code.specs.Tables.{at}
use Rattle.gen_code.proofs.firsts.put_counters.Given as goal

-- the counters of the edges so far
abbrev pub invariant-loop-number : goal.invariant-loop-number
invariant-loop-number l = (b : ℕ) → at l.counters b ≡ block_counter l.placing.graph.now l.end l.placing.counted.now (take l.number l.edges) b
