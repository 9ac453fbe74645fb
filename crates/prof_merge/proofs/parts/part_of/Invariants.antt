use Rattle.std.proofs.Common.{take}
use Rattle.prof_merge.specs.Parts.{GathersInputs}
use Rattle.prof_merge.proofs.parts.part_of.Given as goal

abbrev pub invariant-loop-view : goal.invariant-loop-view
invariant-loop-view l = GathersInputs (take l.view-index l.run) l.gathered
