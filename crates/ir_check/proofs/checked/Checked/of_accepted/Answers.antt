use Rattle.ir_check.proofs.checked.Checked.of_accepted.Goals as goal

pub first_of_names-requires : goal.first_of_names-requires
first_of_names-requires c = record { within = c.requires.within }
