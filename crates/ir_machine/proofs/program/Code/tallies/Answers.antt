use Rattle.std.proofs.Common.{◌∙◌, ap}
use Rattle.ir_code.specs.Units.{tallies_of}
use Rattle.ir_machine.proofs.program.Code.tallies.Goals as goal

pub returns : goal.returns
returns c = c.as_slice.ensures ∙ c.self.invariant.2 ∙ ap tallies_of c.self.view_is
