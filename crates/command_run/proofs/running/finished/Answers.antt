use Rattle.std.proofs.Common.{List, sym, subst}
use Rattle.ir_model.specs.declared.probe.Tally.{Tally}
use Rattle.run_texts.specs.RunProfile.{AreApart}
use Rattle.command_run.proofs.running.finished.Goals as goal

pub profiles-requires : goal.profiles-requires
profiles-requires c = record { apart = subst (λ (ts : List Tally). AreApart ts) (sym c.tallies-2.ensures) (c.tallies_have_names.ensures c.args.code.now c.requires.accepted) }
