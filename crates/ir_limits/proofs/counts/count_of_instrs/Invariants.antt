use Rattle.std.proofs.Common.{◌≡◌, take}
use Rattle.std.specs.List.{count_by}
use Rattle.ir_rules.specs.Limits.{reported}
use Rattle.ir_limits.specs.Tally.{is_counted}
use Rattle.ir_limits.proofs.counts.count_of_instrs.Given as goal

abbrev pub invariant-loop-instr : goal.invariant-loop-instr
invariant-loop-instr l = l.total ≡ reported (count_by (is_counted l.counted) (take l.instr-index l.instrs))
