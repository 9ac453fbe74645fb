use Rattle.std.proofs.Common.{rules, ◌∙◌}
use Rattle.count_core.proofs.Lists.{joined_more, joined_all}
use Rattle.count_core.proofs.sums.joined_sums.Goals as goal

pub loop-index-preserved : goal.loop-index-preserved
loop-index-preserved c = c.in_ok-push.ensures.items ∙ joined_more c.args.first.now c.args.second.now c.loop-index.sums.items c.loop-index.index _ c.loop-index.invariant (search rules) (search rules)

pub returns : goal.returns
returns c = c.of.ensures ∙ c.loop-index.invariant ∙ joined_all c.args.first.now c.args.second.now c.loop-index.index (search rules)
