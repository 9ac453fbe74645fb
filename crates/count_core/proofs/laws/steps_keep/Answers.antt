use Rattle.count_core.proofs.Steps.{keep_sound, keep_rows}
use Rattle.count_core.proofs.laws.steps_keep.Goals as goal

pub returns : goal.returns
returns c = record { sound = keep_sound; rows = keep_rows }
