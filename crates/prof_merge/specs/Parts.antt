-- The parts of a merge, one for each run of inputs.
use Rattle.prof_view.specs.Profile.{ProfileInput}
use Rattle.std.specs.Prelude.{List}
use Rattle.prof_text.specs.Merged.{of_key}
use Rattle.prof_text.specs.Gathered.{Gathers}
use Rattle.prof_text.specs.declared.gathered.Gathered.{Gathered}
use Rattle.prof_merge.specs.Inputs.{records_of}

-- the part gathers the records of these inputs
abbrev pub GathersInputs : List ProfileInput → Gathered → Type 0
GathersInputs inputs part = Gathers part (λ key. of_key key (records_of inputs))
