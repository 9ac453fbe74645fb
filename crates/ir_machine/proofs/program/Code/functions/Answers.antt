use Rattle.std.proofs.Common.{◌∙◌, ap}
use Rattle.ir_code.specs.Resolved.{module_code}
use Rattle.ir_machine.proofs.program.Code.functions.Goals as goal

pub returns : goal.returns
returns c = c.as_slice.ensures ∙ c.self.invariant.0 ∙ ap module_code c.self.view_is
