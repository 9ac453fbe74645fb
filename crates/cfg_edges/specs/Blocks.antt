-- The blocks that labels name.
use Rattle.std.specs.Prelude.{◌≡◌, ℕ, ◌<◌, List, map, Some, slice_get, unwrap_or}
use Rattle.std.specs.Hash.FoldHasher as folding
use Rattle.ir_tree.specs.Edges.{block_place}
use Rattle.ir_tree.specs.Names.{first_place}
use Rattle.ir_tree.specs.declared.index.Index.{Index}
use Rattle.ir_tree.specs.declared.types.Block.{Block}

-- a label that the index does not have counts as the entry's
abbrev pub found : Index → List ℕ → ℕ
found index label = unwrap_or (first_place index label) 0

abbrev pub HasFewPlaces : Index → Type 0
HasFewPlaces index = (name : List ℕ) (b : ℕ) → first_place index name ≡ Some b → b < 4294967296

-- the block at this place has the label
abbrev pub HasLabel : List Block → ℕ → List ℕ → Type 0
HasLabel blocks place label = (block : Block) × (slice_get blocks place ≡ Some block) × (block.label ≡ label)

-- among the blocks a label stands first at the place where one of the known blocks has it
abbrev pub HasPlaces : List Block → List Block → Type 0
HasPlaces blocks known = (place : ℕ) (label : List ℕ) → HasLabel known place label → block_place blocks label ≡ Some place

-- the block that a label names, the entry where no block has it
abbrev pub place_in : List Block → List ℕ → ℕ
place_in blocks label = unwrap_or (block_place blocks label) 0

abbrev pub places_in : List Block → List (List ℕ) → List ℕ
places_in blocks names = map (place_in blocks) names

-- a label's hash, the one of the standard library's maps
abbrev pub label_hash : List ℕ → ℕ
label_hash label = folding.finish (folding.write folding.initial label)
