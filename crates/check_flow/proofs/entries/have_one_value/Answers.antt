use Rattle.std.proofs.Common.{◌∙◌}
use Rattle.check_flow.proofs.PhiLists.{first_values}
use Rattle.check_flow.proofs.entries.have_one_value.Goals as goal

pub returns : goal.returns
returns c = c.have_first_values.ensures ∙ first_values c.in_ok-labels.labels c.args.entries.now c.in_ok-labels.ensures
