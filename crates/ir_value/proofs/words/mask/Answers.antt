use Rattle.ir_value.proofs.WordLemmas.{mask_is}
use Rattle.ir_value.proofs.words.mask.Goals as goal

pub returns : goal.returns
returns c = mask_is c.args.width c.requires.1
