use Rattle.std.proofs.Common.{List, subst, arith}
use Rattle.std.proofs.lemmas.List.{take_all}
use Rattle.ir_tree.specs.Edges.{labels}
use Rattle.ir_tree.specs.Names.{Indexes}
use Rattle.ir_tree.specs.declared.types.Block.{Block}
use Rattle.cfg_edges.proofs.labels.index_of.Goals as goal

pub returns : goal.returns
returns c = subst (λ (bs : List Block). Indexes c.loop-b.index (labels bs)) (take_all c.loop-b.b c.args.blocks.now (omega (arith, c.loop-b-test.false))) c.loop-b.invariant
