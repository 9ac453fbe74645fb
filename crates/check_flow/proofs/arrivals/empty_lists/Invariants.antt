use Rattle.std.proofs.Common.{◌≡◌, map, [], replicate}
use Rattle.check_flow.proofs.arrivals.empty_lists.Given as goal

abbrev pub invariant-loop-b : goal.invariant-loop-b
invariant-loop-b l = map (λ v. v.items) l.lists.items ≡ replicate l._b []
