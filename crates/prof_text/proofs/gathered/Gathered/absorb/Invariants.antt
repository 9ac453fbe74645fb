use Rattle.std.proofs.Common.{◌≡◌, ◌++◌, List}
use Rattle.prof_view.specs.Profile.{ProfileRecord}
use Rattle.prof_text.specs.Merged.{Key}
use Rattle.prof_text.specs.Gathered.{Gathers}
use Rattle.prof_text.proofs.WalkLemmas.{Entry, among}
use Rattle.prof_text.proofs.gathered.Gathered.absorb.Given as goal

-- the entries so far, whose records are put behind the others
abbrev pub invariant-loop-name : goal.invariant-loop-name
invariant-loop-name l =
    (done : List Entry) × (l.fn.more.tallies.entries ≡ done ++ l.name-iterator)
    × ((f g : Key → List ProfileRecord) → Gathers l.initial.self f → Gathers l.fn.more g → Gathers l.self (λ key. f key ++ among key done (g key)))
