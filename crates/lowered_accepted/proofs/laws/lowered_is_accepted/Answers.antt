use Rattle.lowered_accepted.proofs.laws.lowered_is_accepted.Goals as goal

pub returns-clause-accepted : goal.returns-clause-accepted
returns-clause-accepted c m accepted counted unrefused within = record { within = within; formed = c.lowered_is_formed.ensures m accepted counted unrefused }

pub returns-clause-kind : goal.returns-clause-kind
returns-clause-kind c m = c.kind_is_lowered.ensures m
