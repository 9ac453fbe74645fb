use Rattle.split_accepted.proofs.Kept.{moved_accepted, moved_formed}
use Rattle.split_accepted.proofs.laws.reordered_is_accepted.Goals as goal

pub returns-clause-formed : goal.returns-clause-formed
returns-clause-formed c m j f blocks formed at is = moved_formed c.names_are_plain.ensures c.functions_stay_formed.ensures.reordered m j f at blocks is c.reordered_are_as_large.ensures formed

pub returns-clause-accepted : goal.returns-clause-accepted
returns-clause-accepted c m j f blocks accepted at is = moved_accepted c.names_are_plain.ensures c.functions_stay_formed.ensures.reordered m j f at blocks is c.reordered_are_as_large.ensures c.limits_are_kept.ensures accepted
