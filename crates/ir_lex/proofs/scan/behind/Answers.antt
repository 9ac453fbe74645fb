use Rattle.std.proofs.lemmas.List.{take_rest}
use Rattle.ir_lex.proofs.scan.behind.Goals as goal

pub returns : goal.returns
returns c = take_rest c.args.text.now c.args.n
