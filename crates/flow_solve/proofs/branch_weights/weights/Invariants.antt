use Rattle.std.proofs.Common.{◌≡◌, ◌/◌, take, map}
use Rattle.flow_solve.proofs.branch_weights.weights.Given as goal

abbrev pub invariant-loop-k : goal.invariant-loop-k
invariant-loop-k l = take l.k l.out ≡ map (λ n. n / l.scale) (take l.k l.counts)
