use Rattle.gen_lowered.proofs.Limits.{limits_kept}
use Rattle.gen_lowered.proofs.Listed.{place}
use Rattle.gen_plan.specs.Gen.{counted}
use Rattle.gen_lowered.proofs.Refused.{nothing_refused}
use Rattle.gen_lowered.proofs.laws.gen_is_lowered.Goals as goal

pub returns-clause-refused : goal.returns-clause-refused
returns-clause-refused c entry_first m accepted plain =
    nothing_refused entry_first m accepted (c.calls_ask_of_units.ensures entry_first m accepted plain) (c.counters_rise.ensures entry_first m accepted plain)

pub returns-clause-within : goal.returns-clause-within
returns-clause-within c entry_first m accepted plain =
    limits_kept entry_first m accepted plain (c.gen_is_accepted.ensures.accepted entry_first m accepted plain) (c.gen_is_accepted.ensures.kind entry_first m accepted plain) (c.lowered_is_accepted.ensures.kind (counted entry_first m)) (c.calls_ask_of_units.ensures entry_first m accepted plain)
    (λ f at some. (let spot = place m.functions f at in c.counters_fit.ensures entry_first f ((c.plain_can_be_counted.ensures m accepted plain).graphs spot.0 f spot.1 some))) c.functions_stay_small.ensures c.limits_are_kept.ensures c.names_are_plain.ensures

pub returns-clause-accepted : goal.returns-clause-accepted
returns-clause-accepted c entry_first m accepted plain =
    c.lowered_is_accepted.ensures.accepted (counted entry_first m) (c.gen_is_accepted.ensures.accepted entry_first m accepted plain) (c.gen_is_accepted.ensures.kind entry_first m accepted plain) (returns-clause-refused c entry_first m accepted plain) (returns-clause-within c entry_first m accepted plain)
