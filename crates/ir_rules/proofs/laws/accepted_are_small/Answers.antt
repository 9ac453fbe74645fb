use Rattle.ir_rules.proofs.Small.{is_small, is_small_plain}
use Rattle.ir_rules.proofs.laws.accepted_are_small.Goals as goal

pub returns-clause-any : goal.returns-clause-any
returns-clause-any c = λ m accepted. is_small m accepted.within

pub returns-clause-plain : goal.returns-clause-plain
returns-clause-plain c = λ m accepted plain. is_small_plain m accepted.within plain
