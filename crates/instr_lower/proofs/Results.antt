-- What a result that is made tells of the module.
use Rattle.std.proofs.Common.{Result, Ok, Err, IfOk}
use Rattle.instr_lower.specs.Made.{IsLoweredFrom, IsMadeOf}
use Rattle.instr_lower.specs.declared.error.LowerError.{LowerError}
use Rattle.ir_tree.specs.declared.types.Module.{Module}

pub from_made : (m : Module) (r : Result Module LowerError) → IfOk r (λ made. IsMadeOf m made) → IfOk r (λ made. IsLoweredFrom m)
from_made m (Ok made) is = is.from
from_made m (Err e) is = is
