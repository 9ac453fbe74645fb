use Rattle.ir_value.proofs.WordLemmas.{signed_word}
use Rattle.ir_value.proofs.words.signed.Goals as goal

pub returns : goal.returns
returns c = signed_word c.args.width c.args.value c.requires.width.0 c.requires.width.1 c.requires.value c.cast_signed.result c.cast_signed.ensures
