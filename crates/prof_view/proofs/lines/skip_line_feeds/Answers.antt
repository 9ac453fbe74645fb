use Rattle.std.proofs.Common.{ap, ◌∙◌, arith}
use Rattle.prof_view.specs.Lines.{content}
use Rattle.prof_view.proofs.FrontLemmas.{feed_skipped}
use Rattle.prof_view.proofs.lines.skip_line_feeds.Goals as goal

pub loop-rest-preserved : goal.loop-rest-preserved
loop-rest-preserved c = ap content c.behind-rest.ensures ∙ (feed_skipped c.loop-rest.rest.now (omega arith) c.if-first-ne10.false ∙ c.loop-rest.invariant)
