use Rattle.std.proofs.Common.{sym, ◌∙◌}
use Rattle.check_flow.proofs.Inner.{tells_blocks}
use Rattle.check_flow.proofs.Matches.{matched_rising}
use Rattle.check_flow.specs.LookUps.{block_of}
use Rattle.check_flow.proofs.entries.are_matched.Goals as goal

pub returns-then-rises : goal.returns-then-rises
returns-then-rises c =
    let f = c.args.f.now in
    sym (matched_rising f.blocks (block_of c.args.known.now) (tells_blocks f c.requires.finds c.args.known.now c.requires.known) c.args.b c.args.block.now c.requires.here c.args.entries.now c.args.from.now c.requires.from (sym c.rises.ensures ∙ c.if-rises.true) (sym c.in_ok-are_as_many.ensures ∙ c.if-not-branch.false))
