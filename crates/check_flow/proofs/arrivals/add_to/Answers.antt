use Rattle.std.proofs.Common.{arith}
use Rattle.check_flow.proofs.ArrivalLists.{gained}
use Rattle.check_flow.proofs.arrivals.add_to.Goals as goal

pub returns-in_ok-push : goal.returns-in_ok-push
returns-in_ok-push c = gained c.args.lists.now c.args.to c.args.p c.index_mut.result.now c.push.new.self (omega (arith, c.args.lists.now.ok.0)) c.index_mut.ensures.value c.in_ok-push.ensures.items
