use Rattle.lowered_rules.proofs.Symbols.{distinct, texts_once}
use Rattle.lowered_rules.proofs.laws.symbols_stay_apart.Goals as goal

pub returns-clause-symbols : goal.returns-clause-symbols
returns-clause-symbols c m low n = distinct m low n

pub returns-clause-texts : goal.returns-clause-texts
returns-clause-texts c m low t = texts_once m low t
