-- An accepted module has at most 65,540 functions, so the number of one fits.
use Rattle.std.proofs.Common.{◌≡◌, ◌<◌, ◌≤◌, length, arith, sym, subst}
use Rattle.ir_tree.specs.Functions.{numbered}
use Rattle.call_list.proofs.PlaceLemmas.{number-below, numbered-le}
use Rattle.call_list.proofs.line.number_of.Goals as goal

pub overflow_cast-number : goal.overflow_cast-number
overflow_cast-number c =
    let fs = c.args.functions.now in
    let below : c.in_ok-place.place < length fs = number-below fs c.args.name.now c.in_ok-place.place (sym c.in_ok-place.ensures) in
    let fewer : length fs ≤ length c.args.module.now.functions = subst (λ gs. length gs ≤ length c.args.module.now.functions) (sym c.requires) (numbered-le c.args.module.now.functions) in
    let few = (c.accepted_are_small.ensures.any c.args.module.now c.module-accepted.ensures.accepted).functions in
    omega (arith, few, fewer, below)
