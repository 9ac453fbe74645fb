use Rattle.count_likeness.proofs.Labels.{made_distinct}
use Rattle.count_likeness.proofs.laws.made_labels_are_distinct.Goals as goal

pub returns : goal.returns
returns c unit f distinct l = made_distinct unit f.blocks distinct l
