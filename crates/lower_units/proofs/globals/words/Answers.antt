use Rattle.lower_units.proofs.Arrays.{words_are}
use Rattle.lower_units.proofs.globals.words.Goals as goal

pub returns : goal.returns
returns c = words_are c.args.count c.in_ok-word.word c.in_ok-word.ensures
