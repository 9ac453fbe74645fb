use Rattle.std.proofs.Common.{List, sym, ap, ◌∙◌}
use Rattle.check_flow.specs.Phis.{are_without_phis}
use Rattle.check_flow.proofs.PhiFree.{none_unmatched}
use Rattle.ir_tree.specs.declared.types.Block.{Block}
use Rattle.check_flow.proofs.entries.unmatched_if_any.Goals as goal

pub returns-then-are_without_phis : goal.returns-then-are_without_phis
returns-then-are_without_phis c = none_unmatched c.args.f.now.blocks c.args.k 0 c.args.f.now.blocks (ap (λ (bs : List Block). are_without_phis bs) (sym c.as_slice-blocks.ensures) ∙ sym c.are_without_phis.ensures ∙ c.if-are_without_phis.true)
