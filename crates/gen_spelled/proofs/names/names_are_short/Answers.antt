use Rattle.std.proofs.Common.{arith}
use Rattle.gen_spelled.proofs.Lists.{place}
use Rattle.gen_spelled.proofs.names.names_are_short.Goals as goal

pub returns : goal.returns
returns c f at defined =
    let spot = place c.args.functions.now f at in
    let below = spot.2 in
    let ended = c.loop-function-test.false in
    c.loop-function.invariant spot.0 f (omega (arith, below, ended)) spot.1
