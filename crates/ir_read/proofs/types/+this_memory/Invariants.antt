use Rattle.std.proofs.Common.{length}
use Rattle.ir_read.proofs.types.+this_memory.Given as goal

abbrev pub decreases-this_memory : goal.decreases-this_memory
decreases-this_memory l = length l.ns.now
