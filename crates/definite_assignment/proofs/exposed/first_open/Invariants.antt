use Rattle.std.proofs.Common.{◌≡◌, position}
use Rattle.definite_assignment.specs.Chunks.{is_open_below}
use Rattle.definite_assignment.proofs.exposed.first_open.Given as goal

abbrev pub invariant-loop-c : goal.invariant-loop-c
invariant-loop-c l = l.found ≡ position (is_open_below l.rows l.c) l.tagged
