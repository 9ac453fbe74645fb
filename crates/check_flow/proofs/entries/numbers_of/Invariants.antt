use Rattle.std.proofs.Common.{◌≡◌, take}
use Rattle.check_flow.specs.LookUps.{block_of}
use Rattle.check_flow.specs.Phis.{numbers_of}
use Rattle.check_flow.proofs.entries.numbers_of.Given as goal

abbrev pub invariant-loop-entry : goal.invariant-loop-entry
invariant-loop-entry l = l.numbers.items ≡ numbers_of (block_of l.known) l.count (take l.entry-index l.entries)
