use Rattle.std.proofs.Common.{◌≡◌, take}
use Rattle.ir_check.specs.Faults.{faults}
use Rattle.spec_lists.specs.Each.{first_of}
use Rattle.ir_check.proofs.faults.first_in_functions.Given as goal

-- the first fault of the functions before this one
abbrev pub invariant-loop-k : goal.invariant-loop-k
invariant-loop-k l = l.found ≡ first_of (faults l.«module» (take l.k l.functions))
