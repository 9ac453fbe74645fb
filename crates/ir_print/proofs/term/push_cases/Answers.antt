use Rattle.std.proofs.lemmas.Result.{on_ok_weaker}
use Rattle.ir_print.proofs.Pushed.{cases_pushed}
use Rattle.ir_print.proofs.term.push_cases.Goals as goal

pub returns : goal.returns
returns c =
    on_ok_weaker c.push_line_end.result
    (λ e. cases_pushed c.args.nodes.now c.args.ty c.args.cases.now c.args.prof.now c.args.out.now.items _ _ _ c.in_ok-push_case_lines.ensures c.in_ok-push.ensures e)
    c.push_line_end.ensures
