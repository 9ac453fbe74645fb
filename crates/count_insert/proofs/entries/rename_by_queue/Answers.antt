use Rattle.std.proofs.Common.{◌≡◌, ℕ, List, arith}
use Rattle.std.proofs.lemmas.Grind.{common_steps}
use Rattle.count_insert.specs.Lists.{queue_at, without}
use Rattle.count_insert.proofs.entries.rename_by_queue.Goals as goal

pub loop-entry-preserved : goal.loop-entry-preserved
loop-entry-preserved c =
    let taken : queue_at c.rename.new.self ≡ without (queue_at c.loop-entry.queues) _ = λ i l. c.in_ok-rename.ensures.taken l i in
    grind (arith, common_steps)
