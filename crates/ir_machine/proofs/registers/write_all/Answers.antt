use Rattle.std.proofs.Common.{◌∙◌}
use Rattle.ir_machine.proofs.Moves.{put_more}
use Rattle.ir_machine.proofs.registers.write_all.Goals as goal

pub loop-i-preserved : goal.loop-i-preserved
loop-i-preserved c =
    put_more c.loop-i.registers c.assign_target.new.registers c.args.moves.now c.args.values.now c.loop-i.i c.value_at-value.result _ c.loop-i-test.true c.value_at-value.ensures c.assign_target.ensures
    ∙ c.loop-i.invariant
