use Rattle.std.proofs.Common.{length, true, ◌∙◌}
use Rattle.ir_tree.specs.declared.types.Init.TheVariants.{Bytes}
use Rattle.ir_tree.specs.declared.types.MemTy.TheVariants.{Array}
use Rattle.ir_tree.specs.declared.types.MemTy.TheBlock as block
use Rattle.gen_code.proofs.globals.record_global.Goals as goal

pub returns : goal.returns
unfolding block.shape-the_row-MemTy-0 block.hidden-the_row-MemTy-0 denote.Hole.Carrier.hidden
returns c = λ i. record {
  name = c.in_ok-record_name.ensures i;
  constant = true;
  mem = Array (length (c.bytes.ensures i)) (c.in_ok-new.ensures i);
  init = Bytes ((c.of.ensures ∙ c.in_ok-from_slice.ensures.items ∙ c.bytes-2.ensures) i);
}
