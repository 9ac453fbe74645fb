use Rattle.ir_machine.proofs.Params.{fits_count}
use Rattle.ir_machine.proofs.calls.fit_params.Goals as goal

pub returns-then-params-args : goal.returns-then-params-args
returns-then-params-args c regs = fits_count regs c.args.params.now c.args.args.now c.if-params-args.true
