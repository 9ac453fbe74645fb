use Rattle.std.proofs.Common.{◌≡◌, drop}
use Rattle.ir_code.specs.Images.{made_all, memory_of}
use Rattle.ir_machine.proofs.memories.first_memory.Given as goal

-- the images that are left make of the memory what all make of an empty one
abbrev pub invariant-loop-one : goal.invariant-loop-one
invariant-loop-one l = made_all l.memory (drop l.one-index l.images) ≡ memory_of l.images
