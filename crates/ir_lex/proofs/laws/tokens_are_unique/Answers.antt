use Rattle.ir_lex.proofs.Once.{lexes_once}
use Rattle.ir_lex.proofs.laws.tokens_are_unique.Goals as goal

pub returns : goal.returns
returns c = λ text ts us p q. lexes_once ts us text p q
