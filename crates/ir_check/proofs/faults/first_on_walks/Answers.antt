use Rattle.std.proofs.Common.{◌<◌, length, sym, ◌∙◌, Some, None, arith}
use Rattle.ir_check.proofs.Groups.{on_walks, unready_within}
use Rattle.ir_check.proofs.faults.first_on_walks.Goals as goal

pub overflow_cast-result : goal.overflow_cast-result
overflow_cast-result c =
    let f = c.args.f.now in
    let within : c.in-Some.block < length f.blocks = unready_within f (c.in-Some.block, c.in-Some.item) (sym c.in-Some.is ∙ c.in_ok-found.ensures) in
    omega (arith, within, c.requires.resolved.few)

pub returns-in-Some : goal.returns-in-Some
returns-in-Some c = on_walks c.args.k c.args.f.now (c.unready_are_places.ensures c.args.k c.args.f.now) (Some (c.in-Some.block, c.in-Some.item)) (sym c.in-Some.is ∙ c.in_ok-found.ensures)

pub returns-in-None : goal.returns-in-None
returns-in-None c = on_walks c.args.k c.args.f.now (c.unready_are_places.ensures c.args.k c.args.f.now) None (sym c.in-None.is ∙ c.in_ok-found.ensures)
