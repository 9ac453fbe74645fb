use Rattle.std.proofs.Common.{sym, arith, ne_eqb, get_or}
use Rattle.prof_view.proofs.FrontLemmas.{content_begins}
use Rattle.prof_view.proofs.lines.front.Goals as goal

pub returns : goal.returns
returns c =
    let text = c.args.text.now in
    content_begins text (omega arith) (sym c.if-is_blank.ensures) (ne_eqb (get_or text 0 0) 10 c.if-byte-eq10.false) (ne_eqb (get_or text 0 0) 35 c.if-byte-eq35.false)
