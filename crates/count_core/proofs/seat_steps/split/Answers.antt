use Rattle.std.proofs.Common.{◌∙◌}
use Rattle.count_core.proofs.Ready.{splits_in, split_is}
use Rattle.count_core.proofs.seat_steps.split.Goals as goal

pub give_away-requires-clause-seat : goal.give_away-requires-clause-seat
give_away-requires-clause-seat c = (splits_in c.args.state.now c.args.seat c.args.shares c.push.new.self c.fresh_view.result c.requires.playable c.in_ok-push.ensures.ok).0

pub give_away-requires-clause-shares : goal.give_away-requires-clause-shares
give_away-requires-clause-shares c = (splits_in c.args.state.now c.args.seat c.args.shares c.push.new.self c.fresh_view.result c.requires.playable c.in_ok-push.ensures.ok).1

pub returns-clause-ok : goal.returns-clause-ok
returns-clause-ok c = c.give_away.ensures ∙ split_is c.args.state.now c.args.seat c.args.shares c.push.new.self c.fresh_view.result c.requires.playable c.fresh_view.ensures c.in_ok-push.ensures.ok
