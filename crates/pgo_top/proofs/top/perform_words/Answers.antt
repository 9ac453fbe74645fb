-- The command that was found is the one that the words ask for.
use Rattle.std.proofs.Common.{refl, sym, subst, inl, Err}
use Rattle.pgo_shell.specs.Ended.{Ended}
use Rattle.pgo_shell.specs.Promises.{Promises}
use Rattle.pgo_shell.specs.World.{World, world}
use Rattle.pgo_shell.specs.declared.status.Status.{Status}
use Rattle.pgo_shell.specs.declared.stop.Stop.TheVariants as stop
use Rattle.pgo_top.specs.Asked.{Asked, asked, task_of}
use Rattle.pgo_top.specs.Built.{asked_value}
use Rattle.pgo_words.specs.Plan.{words_of}
use Rattle.pgo_top.proofs.AskedLemmas.{by_asked, memory_promises}
use Rattle.pgo_top.proofs.top.perform_words.Goals as goal

pub returns-in-Ok-clause-ended : goal.returns-in-Ok-clause-ended
returns-in-Ok-clause-ended g c a is =
    let old : World = world g.S.Store g.O.Sink c.args.store.now c.args.out.now in
    let new : World = world g.S.Store g.O.Sink c.perform.new.store c.perform.new.out in
    by_asked (λ (x : Asked). Ended (task_of x) old new (g.E.Sink.tells c.args.err.now) (g.E.Sink.bytes c.args.err.now) (g.E.Sink.bytes c.perform.new.err) c.perform.result)
    (asked (words_of c.args.words.now)) (asked_value c.in-Ok.command) a c.in-Ok.ensures.command is c.perform.ensures.ended

pub returns-in-Ok-clause-promises : goal.returns-in-Ok-clause-promises
returns-in-Ok-clause-promises g c a is =
    let old : World = world g.S.Store g.O.Sink c.args.store.now c.args.out.now in
    let new : World = world g.S.Store g.O.Sink c.perform.new.store c.perform.new.out in
    by_asked (λ (x : Asked). Promises (task_of x) old new c.perform.result)
    (asked (words_of c.args.words.now)) (asked_value c.in-Ok.command) a c.in-Ok.ensures.command is c.perform.ensures.promises

pub returns-in-Err-NoMemory-clause-ended : goal.returns-in-Err-NoMemory-clause-ended
returns-in-Err-NoMemory-clause-ended g c a is = record {
  end = Err stop.NoMemory;
  status_is = c.no_memory.ensures.status;
  ran = inl ((λ shown. refl), (λ told name. refl));
  causes = refl;
  line_is = c.no_memory.ensures.line;
}

pub returns-in-Err-NoMemory-clause-promises : goal.returns-in-Err-NoMemory-clause-promises
returns-in-Err-NoMemory-clause-promises g c a is =
    let w : World = world g.S.Store g.O.Sink c.args.store.now c.args.out.now in
    subst (λ (s : Status). Promises (task_of a) w w s) (sym c.no_memory.ensures.status) (memory_promises (task_of a) w)
