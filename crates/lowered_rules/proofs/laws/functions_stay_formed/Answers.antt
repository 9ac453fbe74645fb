use Rattle.lowered_rules.proofs.Functions.{function_formed, runtime_formed}
use Rattle.lowered_rules.proofs.laws.functions_stay_formed.Goals as goal

pub returns-clause-lowered : goal.returns-clause-lowered
returns-clause-lowered c m low f at off = function_formed m low f at off

pub returns-clause-runtime : goal.returns-clause-runtime
returns-clause-runtime c m = runtime_formed m
