use Rattle.flow_solve.proofs.Scaled.{is_weight}
use Rattle.flow_solve.proofs.branch_weights.weights.Goals as goal

pub overflow_cast-out : goal.overflow_cast-out
overflow_cast-out c = record { fits = is_weight c.args.counts.now c.loop-k.k c.scale-scale.result c.scale-scale.ensures }
