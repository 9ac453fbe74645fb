use Rattle.std.proofs.Common.{subst, sym, rules}
use Rattle.count_core.specs.Play.{IsReady}
use Rattle.count_core.proofs.Ready.{opening_ready}
use Rattle.count_core.proofs.state.opening_state.Goals as goal

pub returns-clause-ready : goal.returns-clause-ready
returns-clause-ready c = subst IsReady (sym c.in_ok-state.ensures) (opening_ready c.args.layout c.args.shares (search rules))
