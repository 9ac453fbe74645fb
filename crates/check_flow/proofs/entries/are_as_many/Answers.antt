use Rattle.std.proofs.Common.{ℕ, List, length, nat_eq, ap, ◌∙◌}
use Rattle.std.specs.Cmp.Lexicographic.{pointwise}
use Rattle.check_flow.proofs.Inner.{tells_blocks}
use Rattle.check_flow.proofs.Matches.{compared}
use Rattle.check_flow.specs.LookUps.{block_of}
use Rattle.check_flow.specs.Phis.{numbers_of}
use Rattle.ir_tree.specs.declared.types.Block.{Block}
use Rattle.check_flow.proofs.entries.are_as_many.Goals as goal

pub returns : goal.returns
returns c =
    let f = c.args.f.now in
    let known = block_of c.args.known.now in
    let es = c.args.entries.now in
    let given = c.in_ok-numbers.ensures ∙ ap (λ (bs : List Block). numbers_of known (length bs) es) c.as_slice.ensures in
    c.eq.ensures ∙ ap (λ (ns : List ℕ). pointwise nat_eq ns c.args.from.now) c.as_slice-2.ensures.value ∙ compared f.blocks known (tells_blocks f c.requires.finds c.args.known.now c.requires.known) c.args.b c.args.block.now c.requires.here es c.in_ok-numbers.numbers.items c.sort_unstable.new.self.items c.args.from.now given c.sort_unstable.ensures.permutation c.sort_unstable.ensures.sorted c.requires.from
