use Rattle.std.proofs.Common.{◌≡◌, ◌++◌, take, drop}
use Rattle.count_insert.specs.Lists.{by_queue, queue_at}
use Rattle.count_insert.proofs.entries.rename_by_queue.Given as goal

abbrev pub invariant-loop-entry : goal.invariant-loop-entry
invariant-loop-entry l = take l.entry-index l.entries ++ by_queue (queue_at l.queues) (drop l.entry-index l.entries) ≡ by_queue (queue_at l.initial.queues) l.initial.entries
