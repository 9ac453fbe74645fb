use Rattle.std.proofs.Common.{◌≡◌, ◌<◌, ◌≤◌, ℕ, get_or, ◌++◌, []}
use Rattle.prof_text.specs.Site.{sites_of}
use Rattle.prof_text.proofs.joining.append_all.Given as goal

abbrev pub invariant-loop-s : goal.invariant-loop-s
invariant-loop-s l =
    ((k : ℕ) → k < l.s → get_or (sites_of l.sites) k [] ≡ get_or (sites_of l.initial.sites) k [] ++ get_or (sites_of l.more) k [])
    × ((k : ℕ) → l.s ≤ k → get_or (sites_of l.sites) k [] ≡ get_or (sites_of l.initial.sites) k [])
