use Rattle.std.specs.Prelude.{vec_len}
use Rattle.run_workers.specs.Workers.{ArePlaced}
use Rattle.run_workers.proofs.place.place_results.Given as goal

abbrev pub invariant-loop-number : goal.invariant-loop-number
invariant-loop-number l = ArePlaced l.initial.done.items l.done.items l.places

abbrev pub decreases-loop-number : goal.decreases-loop-number
decreases-loop-number l = vec_len l.done
