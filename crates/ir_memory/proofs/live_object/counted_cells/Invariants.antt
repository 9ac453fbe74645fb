use Rattle.std.proofs.Common.{◌≡◌, sum_by, take}
use Rattle.ir_memory.specs.Objects.{counted_size}
use Rattle.ir_memory.proofs.live_object.counted_cells.Given as goal

abbrev pub invariant-loop-o : goal.invariant-loop-o
invariant-loop-o l = l.all ≡ sum_by counted_size (take l.o-index l.objects)
