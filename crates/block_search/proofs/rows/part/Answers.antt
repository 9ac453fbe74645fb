use Rattle.std.proofs.Common.{get_or, length, arith, sym, ap, ◌∙◌}
use Rattle.std.specs.Prelude.{slice_range}
use Rattle.block_search.proofs.Ranges.{ends_rise, row_is}
use Rattle.block_search.proofs.rows.part.Goals as goal

pub between-requires-clause-rises : goal.between-requires-clause-rises
between-requires-clause-rises c = omega (arith, (ends_rise 0 c.args.ends.now (length c.args.targets.now) c.args.block c.requires.ends c.requires.within).0, c.start_of.ensures)

pub between-requires-clause-within : goal.between-requires-clause-within
between-requires-clause-within c = (ends_rise 0 c.args.ends.now (length c.args.targets.now) c.args.block c.requires.ends c.requires.within).1

pub returns : goal.returns
returns c = c.between.ensures ∙ ap (λ s. slice_range c.args.targets.now s (get_or c.args.ends.now c.args.block 0)) c.start_of.ensures ∙ sym (row_is 0 c.args.ends.now c.args.targets.now c.args.block c.requires.within)
