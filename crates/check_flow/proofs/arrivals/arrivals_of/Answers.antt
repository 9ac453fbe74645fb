use Rattle.std.proofs.Common.{◌≡◌, ◌<◌, length, vec_len, ◌∙◌, arith}
use Rattle.check_flow.specs.LookUps.{block_of}
use Rattle.check_flow.proofs.ArrivalLists.{entered_more}
use Rattle.check_flow.proofs.arrivals.arrivals_of.Goals as goal

pub loop-p-preserved : goal.loop-p-preserved
loop-p-preserved c = record {
  count = c.in_ok-add_successors.ensures.count ∙ c.loop-p.invariant.count;
  each = λ b h.
      let within : b < vec_len c.loop-p.lists = let same : vec_len c.loop-p.lists ≡ length c.args.blocks.now = c.loop-p.invariant.count in omega arith in
      entered_more (block_of c.args.known.now) c.args.blocks.now c.loop-p.lists c.add_successors.new.lists c.loop-p.p c.index-blocks-p.result b c.loop-p-test.true c.index-blocks-p.is within (c.loop-p.invariant.each b h) c.in_ok-add_successors.ensures;
}
