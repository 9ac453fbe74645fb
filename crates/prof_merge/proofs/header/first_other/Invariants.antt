use Rattle.std.proofs.Common.{◌≡◌, ◌<◌, ℕ, Some, slice_get}
use Rattle.prof_merge.specs.Inputs.{modes_of}
use Rattle.prof_merge.proofs.header.first_other.Given as goal

abbrev pub invariant-loop-i : goal.invariant-loop-i
invariant-loop-i l = (k : ℕ) → k < l.i → slice_get (modes_of l.views) k ≡ Some l.mode
