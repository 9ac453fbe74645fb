use Rattle.std.proofs.Common.{◌≡◌, drop}
use Rattle.definite_assignment.specs.Narrowing.{narrow}
use Rattle.definite_assignment.proofs.settling.narrow.Given as goal

-- what is left of the row gives the same
abbrev pub invariant-loop-target : goal.invariant-loop-target
invariant-loop-target l = narrow (drop l.target-index l.row) l.out l.words l.work.items ≡ narrow l.row l.out l.initial.words l.initial.work.items
