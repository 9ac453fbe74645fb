use Rattle.std.proofs.Common.{[], arith}
use Rattle.std.proofs.lemmas.List.{nil_from_length}
use Rattle.block_search.proofs.Rounds.{are_reached}
use Rattle.block_search.proofs.Turns.{is_block, targets_in, found_after, less_after, finished}
use Rattle.block_search.proofs.search.search.Goals as goal

pub row-requires : goal.row-requires
row-requires c = is_block c.args.rows.now c.loop-block.marks c.loop-block.work.items c.pop.new.self.items c.in-Some.block [] c.requires.rows c.loop-block.invariant c.in-Some.ensures.items

pub spread-requires : goal.spread-requires
spread-requires c = targets_in c.args.rows.now c.loop-block.marks c.loop-block.work.items c.pop.new.self.items c.in-Some.block c.row.result.now c.requires.rows c.loop-block.invariant c.in-Some.ensures.items c.row.ensures

pub loop-block-smaller : goal.loop-block-smaller
loop-block-smaller c = less_after c.args.rows.now c.loop-block.marks c.loop-block.work.items c.pop.new.self.items c.in-Some.block c.row.result.now c.requires.rows c.loop-block.invariant c.in-Some.ensures.items c.spread.new.marks c.spread.new.work.items c.row.ensures c.in_ok-spread.ensures

pub loop-block-preserved : goal.loop-block-preserved
loop-block-preserved c = found_after c.args.rows.now c.loop-block.marks c.loop-block.work.items c.pop.new.self.items c.in-Some.block c.row.result.now c.requires.rows c.loop-block.invariant c.in-Some.ensures.items c.spread.new.marks c.spread.new.work.items c.row.ensures c.in_ok-spread.ensures

pub returns-clause-value : goal.returns-clause-value
returns-clause-value c = are_reached c.args.rows.now c.loop-block.marks c.requires.rows (finished c.args.rows.now c.loop-block.marks c.loop-block.work.items (nil_from_length c.loop-block.work.items (omega (arith, c.loop-block.work.ok.0, c.in_default.ensures.cases.0))) c.loop-block.invariant)

pub returns-clause-marks : goal.returns-clause-marks
returns-clause-marks c = finished c.args.rows.now c.loop-block.marks c.loop-block.work.items (nil_from_length c.loop-block.work.items (omega (arith, c.loop-block.work.ok.0, c.in_default.ensures.cases.0))) c.loop-block.invariant
