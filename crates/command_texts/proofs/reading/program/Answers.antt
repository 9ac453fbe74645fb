use Rattle.std.proofs.Common.{arith}
use Rattle.command_texts.proofs.Refusals.{broken, too_long, program_found, program_refused}
use Rattle.command_texts.proofs.reading.program.Goals as goal

pub returns-in-Ok-clause-found : goal.returns-in-Ok-clause-found
returns-in-Ok-clause-found c =
    program_found c.args.text.now _ c.accepted.result c.accepted.ensures.found c.in-Ok.ensures.found c.in-Ok.ensures.within c.read.ensures.once

pub returns-in-Ok-clause-refuses : goal.returns-in-Ok-clause-refuses
returns-in-Ok-clause-refuses c =
    program_refused c.args.name.now c.args.text.now _ c.accepted.result c.accepted.ensures.refused c.in-Ok.ensures.found
