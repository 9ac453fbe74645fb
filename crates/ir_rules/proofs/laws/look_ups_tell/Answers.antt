use Rattle.ir_rules.proofs.Deciding.{held_as_found}
use Rattle.ir_rules.proofs.Finding.{finds_names, giver_decides}
use Rattle.ir_rules.proofs.laws.look_ups_tell.Goals as goal

pub returns-clause-names : goal.returns-clause-names
returns-clause-names c = finds_names

pub returns-clause-givers : goal.returns-clause-givers
returns-clause-givers c = giver_decides

pub returns-clause-registers : goal.returns-clause-registers
returns-clause-registers c = held_as_found
