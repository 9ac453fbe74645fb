use Rattle.std.proofs.Common.{drop}
use Rattle.count_insert.specs.Lists.{AreAway, queue_at}
use Rattle.count_insert.proofs.queues.Queues.are_away.Given as goal

abbrev pub invariant-loop-new : goal.invariant-loop-new
invariant-loop-new l = AreAway (queue_at l.self) (drop l.new-index l.news) → AreAway (queue_at l.self) l.news
