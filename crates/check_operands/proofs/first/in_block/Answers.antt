use Rattle.std.proofs.Common.{List, ap, length}
use Rattle.check_operands.proofs.Merged.{block_first}
use Rattle.ir_tree.specs.declared.types.Instr.{Instr}
use Rattle.check_operands.proofs.first.in_block.Goals as goal

pub returns : goal.returns
returns c =
    block_first c.args.scope.now.module.now c.args.k c.args.scope.now.function.now c.args.b c.args.block.now _ c.in_items-found.result c.placed.result c.lower.result c.exit_breaks.result c.in_items-found.ensures c.placed.ensures c.exit_breaks.ensures (ap (λ (xs : List Instr). length xs) c.as_slice-instrs.ensures) c.lower.ensures
