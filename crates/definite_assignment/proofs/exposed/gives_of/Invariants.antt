use Rattle.std.proofs.Common.{◌≡◌, length}
use Rattle.definite_assignment.specs.Chunks.{Gives}
use Rattle.definite_assignment.proofs.exposed.gives_of.Given as goal

abbrev pub invariant-loop-s : goal.invariant-loop-s
invariant-loop-s l = (length l.words.items ≡ l.count) × Gives l.s l.givers l.c l.words.items
