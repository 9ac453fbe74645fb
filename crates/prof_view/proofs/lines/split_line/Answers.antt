use Rattle.prof_view.proofs.LineLemmas.{content_cut, content_none}
use Rattle.std.proofs.Common.{◌∙◌, sym, ap, take}
use Rattle.prof_view.specs.Lines.{trim, content, with_line}
use Rattle.prof_view.proofs.lines.split_line.Goals as goal

pub returns-in-Some-clause-lines : goal.returns-in-Some-clause-lines
returns-in-Some-clause-lines c =
    let text = c.args.text.now in
    content_cut text c.in-Some.end c.in-Some.ensures.0 c.in-Some.ensures.1
    ∙ ap (λ more. with_line (trim (take c.in-Some.end text)) (content more)) (sym c.behind.ensures)

pub returns-in-None-clause-lines : goal.returns-in-None-clause-lines
returns-in-None-clause-lines c = content_none c.args.text.now c.in-None.ensures
