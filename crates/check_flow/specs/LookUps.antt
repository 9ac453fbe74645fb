-- The blocks that labels name, as a look-up finds them, and the places of the parts of a function that fail a test.
use Rattle.std.specs.Prelude.{ℕ, Bool, false, not, ◌==◌, List, length, Option, None, Some}
use Rattle.std.specs.List.{list_all}
use Rattle.ir_rules.specs.Finding.{label_found}
use Rattle.ir_rules.specs.Parts.{place, unless}
use Rattle.ir_rules.specs.declared.place.Place.{Place}
use Rattle.ir_tree.specs.FunctionNames.{indexed}
use Rattle.ir_tree.specs.Successors.{successors}
use Rattle.ir_tree.specs.declared.function_index.FunctionIndex.{FunctionIndex}
use Rattle.ir_tree.specs.declared.types.Block.{Block}
use Rattle.ir_tree.specs.declared.types.Instr.{Instr}
use Rattle.ir_tree.specs.declared.types.Term.{Term}
use Rattle.spec_lists.specs.Each.{each}

-- the number of the block that a label names
abbrev pub LabelOf : Type 0
LabelOf = List ℕ → Option ℕ

abbrev pub block_of : FunctionIndex → LabelOf
block_of index label = label_found (indexed index label)

-- a block that is not the first
abbrev pub is_inner : Option ℕ → Bool
is_inner None = false
is_inner (Some b) = not (b == 0)

abbrev pub are_inner : LabelOf → Term → Bool
are_inner known t = list_all (λ to. is_inner (known to)) (successors t)

-- ---- places

-- the terminator of block b, where the block fails
abbrev pub exit_places : (Block → Bool) → ℕ → ℕ → Block → List Place
exit_places keeps k b block = unless (keeps block) (place k b (length block.instrs))

-- the instructions of block b that fail
abbrev pub item_places : (ℕ → List Instr → ℕ → Instr → Bool) → ℕ → ℕ → Block → List Place
item_places keeps k b block = each (λ i x. unless (keeps b block.instrs i x) (place k b i)) 0 block.instrs
