use Rattle.std.proofs.Common.{◌≡◌, ◌++◌, drop}
use Rattle.command_chain.specs.Counted.{counted_at}
use Rattle.command_chain.specs.Report.{report}
use Rattle.command_chain.proofs.report.push_report.Given as goal

-- the report of the functions that are left, behind what was put, is that of all
abbrev pub invariant-loop-number : goal.invariant-loop-number
invariant-loop-number l =
    l.out.items ++ report (counted_at l.code l.counts) l.number (drop l.number l.function-items)
    ≡ l.initial.out.items ++ report (counted_at l.code l.counts) 0 l.function-items
