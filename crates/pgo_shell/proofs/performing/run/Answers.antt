-- What was delivered is what the command did on the texts that were read.
use Rattle.std.proofs.Common.{refl, sym}
use Rattle.pgo_shell.specs.Judgement.{Made}
use Rattle.pgo_shell.specs.Product.{bytes_of_all, made_of}
use Rattle.pgo_shell.specs.Shell.{Delivered, Task}
use Rattle.pgo_shell.specs.World.{World, world}
use Rattle.pgo_shell.proofs.RunLemmas.{delivered_from, ran_delivered}
use Rattle.pgo_shell.proofs.performing.run.Goals as goal

pub returns-in-Ok-clause-ran : goal.returns-in-Ok-clause-ran
returns-in-Ok-clause-ran g c =
    let task : Task = g.C.Command.task c.args.command.now in
    let old : World = world g.S.Store g.O.Sink c.args.store.now c.args.out.now in
    let mid : World = world g.S.Store g.O.Sink c.read_all.new.store c.args.out.now in
    let new : World = world g.S.Store g.O.Sink c.deliver.new.store c.deliver.new.out in
    let made : Made = made_of c.in-Ok.product in
    let delivered : Delivered made task.writes old new c.deliver.result =
    delivered_from made task.writes old mid new c.in_ok-texts.ensures.tells (λ shown. shown)
    ((λ shown. refl), c.in_ok-texts.ensures.same) c.deliver.result c.deliver.ensures.stands in
    ran_delivered task old new c.deliver.result made
    (λ told. (record { texts = bytes_of_all c.in_ok-texts.texts.items; made = made; read = c.in_ok-texts.ensures.texts told; judged = rw (sym c.deref.ensures.value) c.in-Ok.ensures.gives }, refl))
    delivered
