use Rattle.std.proofs.Common.{ap, arith}
use Rattle.count_core.specs.CoreView.{shares_of, added_to}
use Rattle.count_core.proofs.Ready.{joins_fit}
use Rattle.count_core.proofs.seat_steps.merged_seats.Goals as goal

pub merged_view-requires-clause-shares : goal.merged_view-requires-clause-shares
merged_view-requires-clause-shares c =
    let fit = joins_fit c.args.state.now c.args.seat c.args.other c.requires.ready c.requires.playable in
    let first = ap shares_of c.view_at-first.ensures in
    let second = ap shares_of c.view_at-second.ensures in
    omega (arith, fit.0)

pub merged_view-requires-clause-sums : goal.merged_view-requires-clause-sums
merged_view-requires-clause-sums c n =
    let fit = joins_fit c.args.state.now c.args.seat c.args.other c.requires.ready c.requires.playable in
    let first = ap (added_to n) c.view_at-first.ensures in
    let second = ap (added_to n) c.view_at-second.ensures in
    omega (arith, fit.1 n)
