use Rattle.ir_lex.proofs.Ranks.{best_next}
use Rattle.ir_lex.proofs.longest.longer.Goals as goal

pub returns-then-len-best : goal.returns-then-len-best
returns-then-len-best c =
    best_next c.args.text.now c.args.kind c.args.best.kind c.args.best.len _ c.requires.before c.front_len-len.ensures c.if-len-best.true
