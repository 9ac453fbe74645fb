use Rattle.std.proofs.Common.{◌+◌}
use Rattle.spec_machines.specs.Machine.{run}
use Rattle.ir_tree.specs.Functions.{function_at}
use Rattle.ir_model.specs.Step.{step}
use Rattle.ir_model.specs.Run.{begun}
use Rattle.spec_machines.proofs.Runs.{within_on, run_more}
use Rattle.ir_model.proofs.laws.more_steps_go_on.Goals as goal

pub returns : goal.returns
returns c m call n k =
    within_on (begun m call.function call.args (function_at m call.function)) (run (step m) n) (run (step m) (n + k)) (run_more (step m) n k)
