use Rattle.std.proofs.Common.{length}
use Rattle.ir_read.proofs.types.+closings.Given as goal

abbrev pub decreases-closings : goal.decreases-closings
decreases-closings l = length l.ns.now
