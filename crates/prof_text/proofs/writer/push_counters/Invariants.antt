use Rattle.std.proofs.Common.{◌≡◌, ◌++◌, take}
use Rattle.std.specs.List.{flat_map}
use Rattle.prof_text.specs.Text.{number_line}
use Rattle.prof_text.proofs.writer.push_counters.Given as goal

abbrev pub invariant-loop-counter : goal.invariant-loop-counter
invariant-loop-counter l = l.out.items ≡ l.initial.out.items ++ flat_map number_line (take l.counter-index l.counters)
