-- Blocks and their labels.
use Rattle.std.specs.Prelude.{ℕ, List, map, find, position, Option}
use Rattle.ir_tree.specs.Names.{same}
use Rattle.ir_tree.specs.declared.types.Block.{Block}
use Rattle.ir_tree.specs.declared.types.Instr.{Instr}
use Rattle.ir_tree.specs.declared.types.Term.{Term}

abbrev pub block_with : List ℕ → List Instr → Term → Block
block_with label instrs term = record { label = label; instrs = instrs; term = term }

abbrev pub labels : List Block → List (List ℕ)
labels blocks = map (λ b. b.label) blocks

-- the first block that has a label, and its place
abbrev pub block_named : List Block → List ℕ → Option Block
block_named blocks label = find (λ b. same label b.label) blocks

abbrev pub block_place : List Block → List ℕ → Option ℕ
block_place blocks label = position (same label) (labels blocks)
