use Rattle.std.proofs.Common.{length}
use Rattle.ir_read.proofs.types.+memory_of.Given as goal

abbrev pub decreases-memory_of : goal.decreases-memory_of
decreases-memory_of l = length l.ns.now
