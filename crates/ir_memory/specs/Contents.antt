-- What a value leaves in cells, and what cells read as.
use Rattle.std.specs.Prelude.{◌≡◌, ℕ, suc, ◌+◌, ◌<◌, ◌^◌, Bool, true, false, ◌&&◌, List, [], ◌∷◌, ◌++◌, map, length, take, drop, Option, Some, None, Result, Ok, Err, if◌then◌else◌}
use Rattle.ir_memory.specs.declared.value.Base.{Base}
use Rattle.ir_memory.specs.declared.value.Base.TheVariants.{Null}
use Rattle.ir_memory.specs.declared.value.Value.{Value}
use Rattle.ir_memory.specs.declared.value.Value.TheVariants.{Int, Pointer}
use Rattle.ir_memory.specs.declared.error.MemError.{MemError}
use Rattle.ir_memory.specs.declared.error.MemError.TheVariants.{BadPointer}
use Rattle.ir_memory.specs.Bytes.{low_bytes, number_of}
use Rattle.ir_memory.specs.Cell.{Cell, Byte, Piece, byte_of, is_zero, is_piece, pointer_of}

-- a value that can be stored in `width` bytes
abbrev pub FitsIn : ℕ → Value → Type 0
FitsIn width (Int n) = n < 256 ^ width
FitsIn width (Pointer base offset) = width ≡ 8

-- the eight pieces of a pointer
abbrev pub pieces : Base → ℕ → List Cell
pieces base offset = map (Piece base offset) (0 ∷ 1 ∷ 2 ∷ 3 ∷ 4 ∷ 5 ∷ 6 ∷ 7 ∷ [])

-- the cells that a value of `width` bytes leaves
abbrev pub cells_of : ℕ → Value → List Cell
cells_of width (Int n) = map Byte (low_bytes width n)
cells_of width (Pointer base offset) = pieces base offset

-- whether a value is a pointer
abbrev pub is_pointer : Value → Bool
is_pointer (Int n) = false
is_pointer (Pointer base offset) = true

-- whether all cells are zero bytes
abbrev pub are_zero : List Cell → Bool
are_zero [] = true
are_zero (cell ∷ cells) = is_zero cell && are_zero cells

-- whether the cells are the pieces of a pointer from the k-th on, in order
abbrev pub are_pieces : Base → ℕ → ℕ → List Cell → Bool
are_pieces base offset k [] = true
are_pieces base offset k (cell ∷ cells) = is_piece base offset k cell && are_pieces base offset (suc k) cells

-- the pointer that the first cell is a piece of
abbrev pub first_pointer : List Cell → Option (Base × ℕ)
first_pointer [] = None
first_pointer (cell ∷ cells) = pointer_of cell

-- that pointer, if the cells are its pieces
abbrev pub whole_pointer : List Cell → Option (Base × ℕ) → Result Value MemError
whole_pointer cells None = Err BadPointer
whole_pointer cells (Some p) = if are_pieces p.0 p.1 0 cells then Ok (Pointer p.0 p.1) else Err BadPointer

-- what the cells of a range read as: a pointer is null, or the one whose pieces they are; an integer has their bytes
abbrev pub value_in : Bool → List Cell → Result Value MemError
value_in true cells = if are_zero cells then Ok (Pointer Null 0) else whole_pointer cells (first_pointer cells)
value_in false cells = Ok (Int (number_of (map byte_of cells)))

-- the cells with those from place `at` on replaced by the new ones
abbrev pub overwritten : List Cell → ℕ → List Cell → List Cell
overwritten cells at new = take at cells ++ (new ++ drop (at + length new) cells)
