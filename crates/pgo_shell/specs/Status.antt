-- The number of each status.
use Rattle.std.specs.Prelude.{ℕ}
use Rattle.pgo_shell.specs.declared.status.Status.{Status}
use Rattle.pgo_shell.specs.declared.status.Status.TheVariants as status

abbrev pub number_of : Status → ℕ
number_of status.Done = 0
number_of status.Words = 1
number_of status.Refused = 2
number_of status.NotReturned = 3
number_of status.Outside = 4
number_of status.Memory = 5
