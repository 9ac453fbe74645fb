use Rattle.std.proofs.Common.{sym}
use Rattle.ir_assigned.proofs.Placed.{unready_alike}
use Rattle.ir_assigned.proofs.laws.unready_are_places.Goals as goal

pub returns : goal.returns
returns c = λ k f. sym (unready_alike k f)
