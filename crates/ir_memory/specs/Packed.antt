-- Cells in three lists side by side: what each reads as, a tag, and the pointers that were stored.
use Rattle.std.specs.Prelude.{◌≡◌, ℕ, zero, suc, ◌+◌, ◌-◌, ◌<◌, ◌≤◌, List, [], ◌∷◌, ◌++◌, length, get_or, take, drop}
use Rattle.ir_memory.specs.declared.stored_pointer.StoredPointer.{StoredPointer}
use Rattle.ir_memory.specs.declared.value.Base.TheVariants.{Null}
use Rattle.ir_memory.specs.Cell.{Cell, Byte, Piece, byte_of}

-- a list with the elements from place `at` on replaced by new ones
abbrev pub put : {X : Type 0} → List X → ℕ → List X → List X
put xs at new = take at xs ++ (new ++ drop (at + length new) xs)

abbrev pub no_pointer : StoredPointer
no_pointer = record { base = Null; offset = 0 }

abbrev pub piece_of : StoredPointer → ℕ → Cell
piece_of p index = Piece p.base p.offset index

-- the cell at place i: a byte where its tag is 0, and with the tag k + 1 the piece k of the pointer that was stored k
-- cells earlier
abbrev pub cell_of : List StoredPointer → ℕ → ℕ → ℕ → Cell
cell_of pointers i value zero = Byte value
cell_of pointers i value (suc k) = piece_of (get_or pointers (i - k) no_pointer) k

-- the cells from place i on
abbrev pub cells_from : List StoredPointer → ℕ → List ℕ → List ℕ → List Cell
cells_from pointers i [] tags = []
cells_from pointers i (value ∷ values) [] = []
cells_from pointers i (value ∷ values) (tag ∷ tags) = cell_of pointers i value tag ∷ cells_from pointers (suc i) values tags

-- a tag names one of eight pieces, of a pointer that is there, and the value is what the piece reads as
abbrev pub IsKept : List StoredPointer → ℕ → ℕ → ℕ → Type 0
IsKept pointers i value zero = Unit {0}
IsKept pointers i value (suc k) = (k < 8) × (k ≤ i) × (value ≡ byte_of (cell_of pointers i value (suc k)))

abbrev pub AreKept : List StoredPointer → ℕ → List ℕ → List ℕ → Type 0
AreKept pointers i [] [] = Unit {0}
AreKept pointers i [] (tag ∷ tags) = ⊥
AreKept pointers i (value ∷ values) [] = ⊥
AreKept pointers i (value ∷ values) (tag ∷ tags) = IsKept pointers i value tag × AreKept pointers (suc i) values tags

pub record ArePacked (values tags : List ℕ) (pointers : List StoredPointer) : Type 0 where
  pub kept : AreKept pointers 0 values tags
  pub room : length values ≤ length pointers
