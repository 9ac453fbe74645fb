use Rattle.std.proofs.Common.{◌∙◌, ap}
use Rattle.ir_tree.specs.declared.types.Module.{Module}
use Rattle.ir_code.specs.Units.{counters_of_all, tallies_of}
use Rattle.ir_machine.proofs.program.Code.counters.Goals as goal

pub returns : goal.returns
returns c = c.self.invariant.3 ∙ ap (λ (m : Module). counters_of_all (tallies_of m)) c.self.view_is
