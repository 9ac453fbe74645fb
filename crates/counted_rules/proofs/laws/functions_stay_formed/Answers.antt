use Rattle.counted_rules.proofs.FunctionKept.{declared_formed, function_formed}
use Rattle.counted_rules.proofs.Reordered.{reordered_formed}
use Rattle.counted_rules.proofs.laws.functions_stay_formed.Goals as goal

pub returns-clause-fitting : goal.returns-clause-fitting
returns-clause-fitting c m m2 unit f takes at formed fits = function_formed m m2 takes unit f formed fits at

pub returns-clause-declared : goal.returns-clause-declared
returns-clause-declared c m m2 unit f takes at formed declared = declared_formed m m2 takes unit f formed declared at

pub returns-clause-reordered : goal.returns-clause-reordered
returns-clause-reordered c m m2 f blocks takes at formed is = reordered_formed m m2 f blocks takes at formed is
