use Rattle.lowered_accepted.proofs.Formed.{well_formed}
use Rattle.lowered_accepted.proofs.laws.lowered_is_formed.Goals as goal

pub returns : goal.returns
returns c m accepted counted unrefused =
    well_formed m (record { formed = accepted.formed; counted = counted; unrefused = unrefused }) c.kind_is_lowered.ensures c.symbols_stay_apart.ensures.symbols c.symbols_stay_apart.ensures.texts c.globals_stay_formed.ensures c.functions_stay_formed.ensures.lowered c.functions_stay_formed.ensures.runtime
