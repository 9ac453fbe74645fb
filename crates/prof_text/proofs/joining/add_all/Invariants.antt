use Rattle.std.proofs.Common.{◌≡◌, ◌+◌, ◌<◌, ◌≤◌, ℕ, min, get_or}
use Rattle.prof_text.specs.Merged.{most}
use Rattle.prof_text.proofs.joining.add_all.Given as goal

abbrev pub invariant-loop-i : goal.invariant-loop-i
invariant-loop-i l =
    ((k : ℕ) → k < l.i → get_or l.sums k 0 ≡ min (get_or l.initial.sums k 0 + get_or l.more k 0) most)
    × ((k : ℕ) → l.i ≤ k → get_or l.sums k 0 ≡ get_or l.initial.sums k 0)
