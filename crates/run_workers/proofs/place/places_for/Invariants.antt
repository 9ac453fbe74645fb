use Rattle.std.proofs.Common.{◌≡◌, length}
use Rattle.run_workers.proofs.place.places_for.Given as goal

abbrev pub invariant-loop-call : goal.invariant-loop-call
invariant-loop-call l = length l.places.items ≡ l._call-index
