use Rattle.std.proofs.Common.{◌∙◌}
use Rattle.count_insert.specs.Lists.{queue_at}
use Rattle.count_insert.proofs.Queued.{in_queues}
use Rattle.count_insert.proofs.entries.rename_many.Goals as goal

pub returns-then-are_away : goal.returns-then-are_away
returns-then-are_away c =
    c.in_ok-rename_by_queue.ensures ∙ in_queues (queue_at c.in_ok-queues.queues) c.args.news.now c.args.entries.now c.in_ok-queues.ensures (c.are_away.ensures c.if-are_away.true)
