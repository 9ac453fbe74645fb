use Rattle.std.proofs.Common.{ap, ◌∙◌}
use Rattle.ir_machine.specs.declared.state.Frame.{Frame}
use Rattle.ir_machine.proofs.Doing.{begins}
use Rattle.ir_machine.proofs.calls.begin.Goals as goal

pub returns-clause-steps : goal.returns-clause-steps
returns-clause-steps c =
    begins c.args.machine.now c.first_frame.new.machine c.push.new.machine c.in_ok-frame.frame c.args.number c.args.function.now c.args.args.now c.args.into c.in_ok-frame.ensures.frame c.in_ok-frame.ensures.rest c.in_ok-push.ensures.stack c.in_ok-push.ensures.rest

pub returns-clause-number : goal.returns-clause-number
returns-clause-number c =
    ap (λ (fr : Frame). fr.function) (c.in_ok-push.ensures.stack.0 ∙ c.in_ok-frame.ensures.frame)
