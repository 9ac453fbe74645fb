use Rattle.std.proofs.Common.{◌≡◌, drop, None}
use Rattle.check_flow.specs.Rising.{rises}
use Rattle.check_flow.proofs.rising.rises.Given as goal

abbrev pub invariant-loop-number : goal.invariant-loop-number
invariant-loop-number l = rises l.last (drop l.number-index l.numbers) ≡ rises None l.numbers
