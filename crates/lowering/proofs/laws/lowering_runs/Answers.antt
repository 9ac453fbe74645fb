use Rattle.lowering.proofs.Runs.{alike, same_run, stays_valid}
use Rattle.lowering.proofs.laws.lowering_runs.Goals as goal

pub returns-clause-same : goal.returns-clause-same
returns-clause-same c m call n = same_run m call n

pub returns-clause-valid : goal.returns-clause-valid
returns-clause-valid c m call valid = stays_valid m call valid

pub returns-clause-alike : goal.returns-clause-alike
returns-clause-alike c m = alike m
