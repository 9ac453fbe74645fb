use Rattle.prof_merge.specs.Reading.{IsReading}
use Rattle.command_profiles.proofs.reading.profile.Goals as goal

pub returns-clause-found : goal.returns-clause-found
returns-clause-found c = c.judged.ensures.found c.args.text.now (record { spelled = c.read.ensures.spelled; within = c.read.ensures.within; refused = c.read.ensures.refused })

pub returns-clause-refuses : goal.returns-clause-refuses
returns-clause-refuses c = c.judged.ensures.refuses c.args.text.now (record { spelled = c.read.ensures.spelled; within = c.read.ensures.within; refused = c.read.ensures.refused })
