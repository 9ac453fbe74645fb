use Rattle.std.proofs.Common.{rules, length}
use Rattle.definite_assignment.proofs.Small.{number_next}
use Rattle.definite_assignment.proofs.givers.number_in.Goals as goal

pub loop-u-preserved : goal.loop-u-preserved
loop-u-preserved c =
    number_next c.args.uses.now c.loop-u.u-index (record { giver = 0; at = 0 }) (length c.args.slots.now) c.loop-u.tagged.items c.push.new.self.items c.loop-u.givers.items c.slot_for.new.givers.items c.in_ok-slot.slot (search rules) c.requires c.in_ok-push.ensures.items c.in_ok-slot.ensures.at c.in_ok-slot.ensures.grown c.loop-u.invariant.0 c.loop-u.invariant.1 c.loop-u.invariant.2
