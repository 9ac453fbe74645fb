-- What holds between calls of a memory.
use Rattle.std.specs.Prelude.{◌≡◌, ◌≢◌, ℕ, ◌+◌, ◌≤◌, ◌⊎◌, List, replicate, Option, Some, None, Result, Ok, Err}
use Rattle.ir_memory.specs.declared.value.Base.{Base}
use Rattle.ir_memory.specs.declared.value.Base.TheVariants.{Null}
use Rattle.ir_memory.specs.declared.value.Value.{Value}
use Rattle.ir_memory.specs.declared.value.Value.TheVariants.{Int, Pointer}
use Rattle.ir_memory.specs.declared.error.MemError.{MemError}
use Rattle.ir_memory.specs.declared.error.MemError.TheVariants.{Cells, Access, BadPointer, NoMemory}
use Rattle.ir_memory.specs.Cell.{Cell, Byte}
use Rattle.ir_memory.specs.Contents.{pieces}
use Rattle.ir_memory.specs.Memory.{MemoryState, cells_at}

-- two ranges have no cell in common
abbrev pub AreApart : Base → ℕ → ℕ → Base → ℕ → ℕ → Type 0
AreApart base offset width b o w = (b ≢ base) ⊎ ((o + w ≤ offset) ⊎ (offset + width ≤ o))

-- no cell outside of a range has changed: each range apart from it has the cells that it had
abbrev pub ChangesOnlyRange : MemoryState → MemoryState → Base → ℕ → ℕ → Type 0
ChangesOnlyRange old new base offset width =
    (b : Base) (o w : ℕ) → AreApart base offset width b o w → cells_at new b o w ≡ cells_at old b o w

-- cells hold a pointer: its eight pieces in order, or for null eight zero bytes
abbrev pub HoldsPointer : List Cell → Base → ℕ → Type 0
HoldsPointer cells base offset =
    (cells ≡ pieces base offset) ⊎ ((cells ≡ replicate 8 (Byte 0)) × (base ≡ Null) × (offset ≡ 0))

-- the answer is the pointer that the cells of a range hold, and a bad pointer where they hold none
abbrev pub ReadsPointer : Option (List Cell) → Result Value MemError → Type 0
ReadsPointer None result = result ≡ Err Access
ReadsPointer (Some cells) (Ok (Int n)) = ⊥
ReadsPointer (Some cells) (Ok (Pointer base offset)) = HoldsPointer cells base offset
ReadsPointer (Some cells) (Err BadPointer) = (base : Base) (offset : ℕ) → ¬ (HoldsPointer cells base offset)
ReadsPointer (Some cells) (Err Access) = ⊥
ReadsPointer (Some cells) (Err Cells) = ⊥
ReadsPointer (Some cells) (Err NoMemory) = ⊥
