use Rattle.split_accepted.proofs.Kept.{any_accepted, any_formed}
use Rattle.split_accepted.proofs.laws.split_is_accepted.Goals as goal

pub returns-clause-formed : goal.returns-clause-formed
returns-clause-formed c m j a p new f made formed at free is =
    let stay = c.functions_stay_formed.ensures in
    any_formed c.names_are_plain.ensures stay.reordered m j f at a p new free c.functions_grow_little.ensures stay.fitting stay.declared c.reordered_is_accepted.ensures.formed formed made is

pub returns-clause-accepted : goal.returns-clause-accepted
returns-clause-accepted c m j a p new f made accepted at free room is =
    let stay = c.functions_stay_formed.ensures in
    any_accepted c.names_are_plain.ensures stay.reordered m j f at a p new free c.functions_grow_little.ensures stay.fitting stay.declared c.limits_are_kept.ensures c.reordered_is_accepted.ensures.accepted room accepted made is
