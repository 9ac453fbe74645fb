use Rattle.std.proofs.Common.{ap, sym}
use Rattle.ir_memory.specs.declared.value.Value.TheVariants.{Int}
use Rattle.ir_machine.specs.Steps.{computed}
use Rattle.ir_machine.proofs.Giving.{does}
use Rattle.ir_machine.proofs.deeds.finish.Goals as goal

pub returns-in-Ok : goal.returns-in-Ok
returns-in-Ok c =
    does c.args.machine.now c.give.new.machine c.args.into c.give.result (computed c.args.into c.args.machine.now.memory c.args.outcome) (Int c.in-Ok.number) (ap (computed c.args.into c.args.machine.now.memory) (sym c.in-Ok.is)) c.give.ensures
