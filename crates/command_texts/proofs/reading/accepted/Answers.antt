use Rattle.command_texts.proofs.Refusals.{says_not_accepted}
use Rattle.command_texts.proofs.reading.accepted.Goals as goal

pub returns-in-Err-clause-refused : goal.returns-in-Err-clause-refused
returns-in-Err-clause-refused c =
    says_not_accepted c.args.name.now c.args.«module» c.in-Err.error.why c.refused_module.result c.well_formed_breaks_none.ensures c.in-Err.ensures.refused c.refused_module.ensures
