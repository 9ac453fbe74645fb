-- A switch whose default and three cases lead to one block.
use Rattle.std.specs.Prelude.{List, [], ◌∷◌, None, codes}
use Rattle.ir_tree.specs.Blocks.{block_with}
use Rattle.ir_tree.specs.declared.types.Block.{Block}
use Rattle.ir_tree.specs.declared.types.Operand.TheVariants.{Local}
use Rattle.ir_tree.specs.declared.types.Term.TheVariants.{Switch, Ret}
use Rattle.ir_tree.specs.declared.types.Ty.TheVariants.{I64}

unfoldable pub entry_block : Block
entry_block = block_with (codes "entry") [] (Switch I64 (Local (codes "x")) (codes "d") ((0, codes "d") ∷ (1, codes "d") ∷ (2, codes "d") ∷ []) None)

unfoldable pub last_block : Block
last_block = block_with (codes "d") [] (Ret None)

abbrev pub switching : List Block
switching = entry_block ∷ last_block ∷ []
