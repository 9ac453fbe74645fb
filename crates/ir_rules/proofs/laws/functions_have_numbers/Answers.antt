use Rattle.ir_rules.proofs.Given.{all_numbered}
use Rattle.ir_rules.proofs.laws.functions_have_numbers.Goals as goal

pub returns : goal.returns
returns c = all_numbered
