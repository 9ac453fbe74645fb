use Rattle.ir_machine.proofs.Giving.{allocates}
use Rattle.ir_machine.proofs.deeds.allocate.Goals as goal

pub returns-in-Ok : goal.returns-in-Ok
returns-in-Ok c =
    allocates c.args.machine.now c.give.new.machine c.args.into c.give.result c.args.size c.in-Ok.object c.make.new.self c.in-Ok.ensures.number c.in-Ok.ensures.ok
    (λ more. let e = c.in-Ok.ensures.cells.1 more in cc) c.give.ensures
