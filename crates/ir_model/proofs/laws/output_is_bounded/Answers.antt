use Rattle.ir_tree.specs.Functions.{function_at}
use Rattle.ir_model.proofs.Output.{call_bounded}
use Rattle.ir_model.proofs.laws.output_is_bounded.Goals as goal

pub returns : goal.returns
returns c m call n = call_bounded m call.function n call.args (function_at m call.function)
