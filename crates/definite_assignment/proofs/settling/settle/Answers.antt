use Rattle.std.proofs.Common.{[], ◌<◌, length, arith, refl}
use Rattle.std.proofs.lemmas.List.{nil_from_length}
use Rattle.definite_assignment.proofs.Turns.{popped_block, targets_in, found_after, less_after, finished}
use Rattle.definite_assignment.proofs.settling.settle.Goals as goal

pub row-requires : goal.row-requires
row-requires c = popped_block c.args.rows.now c.args.gives.now c.loop-block.words c.loop-block.work.items c.pop.new.self.items c.in-Some.block [] c.requires.rows c.loop-block.invariant c.in-Some.ensures.items

pub bounds-words-block : goal.bounds-words-block
bounds-words-block c =
    let within : c.in-Some.block < length c.args.rows.now = popped_block c.args.rows.now c.args.gives.now c.loop-block.words c.loop-block.work.items c.pop.new.self.items c.in-Some.block [] c.requires.rows c.loop-block.invariant c.in-Some.ensures.items in
    omega (arith, within, c.loop-block.invariant.size)

pub bounds-gives-block : goal.bounds-gives-block
bounds-gives-block c =
    let within : c.in-Some.block < length c.args.rows.now = popped_block c.args.rows.now c.args.gives.now c.loop-block.words c.loop-block.work.items c.pop.new.self.items c.in-Some.block [] c.requires.rows c.loop-block.invariant c.in-Some.ensures.items in
    omega (arith, within, c.requires.gives)

pub narrow-requires : goal.narrow-requires
narrow-requires c = targets_in c.args.rows.now c.args.gives.now c.loop-block.words c.loop-block.work.items c.pop.new.self.items c.in-Some.block c.row.result.now c.requires.rows c.loop-block.invariant c.in-Some.ensures.items c.row.ensures

pub loop-block-smaller : goal.loop-block-smaller
loop-block-smaller c = less_after c.args.rows.now c.args.gives.now c.loop-block.words c.loop-block.work.items c.pop.new.self.items c.in-Some.block c.row.result.now c.requires.rows c.loop-block.invariant c.in-Some.ensures.items _ refl c.narrow.new.words c.narrow.new.work.items c.row.ensures c.in_ok-narrow.ensures

pub loop-block-preserved : goal.loop-block-preserved
loop-block-preserved c = found_after c.args.rows.now c.args.gives.now c.loop-block.words c.loop-block.work.items c.pop.new.self.items c.in-Some.block c.row.result.now c.requires.rows c.loop-block.invariant c.in-Some.ensures.items _ refl c.narrow.new.words c.narrow.new.work.items c.row.ensures c.in_ok-narrow.ensures

pub returns : goal.returns
returns c = finished c.args.rows.now c.args.gives.now c.loop-block.words c.loop-block.work.items (nil_from_length c.loop-block.work.items (omega (arith, c.loop-block.work.ok.0, c.in_default.ensures.cases.0))) c.loop-block.invariant
