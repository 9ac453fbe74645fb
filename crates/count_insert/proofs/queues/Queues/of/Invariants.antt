use Rattle.std.proofs.Common.{◌≡◌, ℕ, List, ◌++◌, drop}
use Rattle.count_insert.specs.Lists.{news_for, queue_at}
use Rattle.count_insert.proofs.queues.Queues.of.Given as goal

abbrev pub invariant-loop-label : goal.invariant-loop-label
invariant-loop-label l = (q : List ℕ) → queue_at l.queues q ++ news_for q (drop l.label-index l.news) ≡ news_for q l.news
