-- Behind the whole output the writes decide.
use Rattle.std.proofs.Common.{ap, rules}
use Rattle.std.specs.Option.{option_map}
use Rattle.pgo_shell.specs.Product.{bytes_of, made_of}
use Rattle.pgo_shell.specs.World.{World, world}
use Rattle.pgo_shell.proofs.RunLemmas.{delivered_files}
use Rattle.pgo_shell.proofs.delivering.deliver.Goals as goal

pub returns-clause-stands : goal.returns-clause-stands
returns-clause-stands g c =
    let old : World = world g.S.Store g.O.Sink c.args.store.now c.args.out.now in
    let new : World = world g.S.Store g.O.Sink c.write_files.new.store c.put_output.new.out in
    delivered_files (made_of c.args.product) (g.C.Command.task c.args.command.now).writes old new c.write_files.result
    (ap (option_map bytes_of) c.in-None.is) (search rules) (search rules) c.write_files.ensures.stops
