-- How a command ended: one end that ties its status, what stands, the cause and the line together.
use Rattle.std.specs.Prelude.{◌≡◌, ℕ, List, Result}
use Rattle.pgo_shell.specs.World.{World}
use Rattle.pgo_shell.specs.Shell.{Task, Ran, Causes, Front, line_of, status_of}
use Rattle.pgo_shell.specs.declared.stop.Stop.{Stop}
use Rattle.pgo_shell.specs.declared.status.Status.{Status}

-- `says`: whether the error output's bytes are told
pub record Ended (task : Task) (old new : World) (says : Type 0) (quiet said : List ℕ) (status : Status) : Type 0 where
  pub end : Result (Unit {0}) Stop
  pub status_is : status ≡ status_of end
  pub ran : Ran task old new end
  pub causes : Causes task old new end
  pub line_is : says → Front (line_of task end) quiet said
