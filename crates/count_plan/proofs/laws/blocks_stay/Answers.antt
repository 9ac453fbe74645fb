use Rattle.count_plan.proofs.Staying.{stays}
use Rattle.count_plan.proofs.laws.blocks_stay.Goals as goal

pub returns : goal.returns
returns c = stays
