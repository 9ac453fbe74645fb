use Rattle.std.proofs.Common.{rules}
use Rattle.counter_table.proofs.Moves.{read_allows}
use Rattle.counter_table.proofs.table.CounterTable.find.Goals as goal

pub load-requires : goal.load-requires
load-requires g c = (search rules, search rules, read_allows _ _ c.one_did_all.ensures.sums _ _ _ _ _ (search rules) (search rules))
