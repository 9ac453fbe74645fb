use Rattle.std.proofs.Common.{◌≡◌, ℕ, take}
use Rattle.gen_code.specs.Numbered.{number_at}
use Rattle.gen_code.specs.OnEdges.{edge_on}
use Rattle.gen_code.proofs.firsts.edges_with_blocks.Given as goal

abbrev pub invariant-loop-number : goal.invariant-loop-number
invariant-loop-number l = (b p : ℕ) → number_at l.made b p ≡ edge_on l.placing.graph.now l.placing.counted.now (take l.number l.edges) b p
