use Rattle.ir_model.proofs.Flow.{call_flow}
use Rattle.ir_model.proofs.laws.walks_are_a_flow.Goals as goal

pub returns : goal.returns
returns c m call n h = call_flow m call n h
