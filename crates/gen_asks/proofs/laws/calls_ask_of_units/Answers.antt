use Rattle.gen_asks.proofs.Units.{asks_stand}
use Rattle.gen_asks.proofs.laws.calls_ask_of_units.Goals as goal

pub returns : goal.returns
returns c entry_first m accepted plain a at = asks_stand entry_first m accepted plain (c.functions_have_numbers.ensures m accepted plain) a at
