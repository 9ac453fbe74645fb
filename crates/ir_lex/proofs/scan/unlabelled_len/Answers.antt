use Rattle.ir_lex.proofs.Unlabelled.{unlabelled_run}
use Rattle.ir_lex.proofs.scan.unlabelled_len.Goals as goal

pub returns-in-None-clause-unlabelled : goal.returns-in-None-clause-unlabelled
returns-in-None-clause-unlabelled c =
    unlabelled_run c.args.text.now c.name_len-n.result c.name_len-n.ensures.count (rw c.behind.ensures at c.in-None.ensures)
