use Rattle.counted_accepted.proofs.Modules.{well_formed}
use Rattle.counted_accepted.proofs.laws.counted_is_formed.Goals as goal

pub returns : goal.returns
returns c entry_first m accepted plain =
    well_formed entry_first m accepted plain (c.names_are_plain.ensures m accepted.formed plain) c.functions_stay_formed.ensures.fitting c.functions_stay_formed.ensures.declared (λ f at some. c.gen_plans_fit.ensures entry_first m accepted plain f at some)
