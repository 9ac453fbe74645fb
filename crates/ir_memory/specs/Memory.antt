-- A memory is the next number of an allocation, and a finite map from the numbers of live allocations to a mark and
-- cells: a list of allocations, by rising number.
use Rattle.std.specs.Prelude.{ℕ, ◌+◌, Bool, true, false, not, ◌&&◌, ◌==◌, nat_lt, nat_le, max, List, [], ◌∷◌, ◌++◌, filter, length, replicate, take, drop, sum_by, Option, Some, None, Result, Ok, Err, if◌then◌else◌}
use Rattle.ir_memory.specs.declared.value.Base.{Base}
use Rattle.ir_memory.specs.declared.value.Base.TheVariants.{Null, Function, Object}
use Rattle.ir_memory.specs.declared.value.Value.{Value}
use Rattle.ir_memory.specs.declared.error.MemError.{MemError}
use Rattle.ir_memory.specs.declared.error.MemError.TheVariants.{Access, Cells, BadPointer, NoMemory}
use Rattle.ir_memory.specs.Cell.{Cell, Byte}
use Rattle.ir_memory.specs.Contents.{cells_of, value_in, overwritten}

-- a live object: its number, whether stores to it are refused, and its cells
pub record Allocation : Type 0 where
  pub number : ℕ
  pub constant : Bool
  pub cells : List Cell

pub record MemoryState : Type 0 where
  pub next : ℕ
  pub live : List Allocation

abbrev pub empty_memory : MemoryState
empty_memory = record { next = 0; live = [] }

-- the live allocation with a number
abbrev pub found : List Allocation → ℕ → Option Allocation
found [] number = None
found (a ∷ live) number = if a.number == number then Some a else found live number

-- the live allocations with the cells of one of them replaced
abbrev pub with_cells : List Allocation → ℕ → List Cell → List Allocation
with_cells [] number cells = []
with_cells (a ∷ live) number cells =
    if a.number == number then record a { cells = cells } ∷ live else a ∷ with_cells live number cells

-- the live cells are counted, and each allocation at least as one
abbrev pub counted : Allocation → ℕ
counted a = max 1 (length a.cells)

abbrev pub live_cells : List Allocation → ℕ
live_cells live = sum_by counted live

-- one more allocation, of zero bytes
abbrev pub made : MemoryState → ℕ → Bool → MemoryState
made m size constant =
    let a : Allocation = record { number = m.next; constant = constant; cells = replicate size (Byte 0) } in
    record { next = m.next + 1; live = m.live ++ a ∷ [] }

-- the allocations from a number on have ended; their numbers are not used again
abbrev pub dropped : MemoryState → ℕ → MemoryState
dropped m number = record m { live = filter (λ a. nat_lt a.number number) m.live }

-- the cells of a range, where it lies in them
abbrev pub range_of : ℕ → ℕ → List Cell → Option (List Cell)
range_of offset width cells =
    if nat_le (offset + width) (length cells) then Some (take width (drop offset cells)) else None

-- the same, in the allocation that was found
abbrev pub range_found : ℕ → ℕ → Option Allocation → Option (List Cell)
range_found offset width None = None
range_found offset width (Some a) = range_of offset width a.cells

-- the cells of a range at a pointer
abbrev pub cells_at : MemoryState → Base → ℕ → ℕ → Option (List Cell)
cells_at m Null offset width = None
cells_at m (Function k) offset width = None
cells_at m (Object number) offset width = range_found offset width (found m.live number)

abbrev pub read : Bool → Option (List Cell) → Result Value MemError
read pointer None = Err Access
read pointer (Some cells) = value_in pointer cells

-- what a load gives: an integer of `width` bytes, or a pointer
abbrev pub loaded : MemoryState → Base → ℕ → ℕ → Bool → Result Value MemError
loaded m base offset width pointer = read pointer (cells_at m base offset width)

-- whether a value may be written at a range of an allocation: not in a constant, where these are protected
abbrev pub accepts : Bool → ℕ → ℕ → Allocation → Bool
accepts protect offset width a = not (protect && a.constant) && nat_le (offset + width) (length a.cells)

-- a value written at a range of the allocation that was found
abbrev pub written_in : Bool → MemoryState → ℕ → ℕ → Value → Option Allocation → Result MemoryState MemError
written_in protect m offset width value None = Err Access
written_in protect m offset width value (Some a) =
    if accepts protect offset width a
    then Ok (record m { live = with_cells m.live a.number (overwritten a.cells offset (cells_of width value)) })
    else Err Access

abbrev pub written : Bool → MemoryState → ℕ → ℕ → ℕ → Value → Result MemoryState MemError
written protect m number offset width value = written_in protect m offset width value (found m.live number)

-- an initializer fills constants too
abbrev pub placed : MemoryState → ℕ → ℕ → ℕ → Value → Result MemoryState MemError
placed m number offset width value = written false m number offset width value

abbrev pub stored : MemoryState → Base → ℕ → ℕ → Value → Result MemoryState MemError
stored m Null offset width value = Err Access
stored m (Function k) offset width value = Err Access
stored m (Object number) offset width value = written true m number offset width value

-- what `make` may answer in place of a number
abbrev pub IsMakeRefusal : MemError → Type 0
IsMakeRefusal Cells = Unit {0}
IsMakeRefusal NoMemory = Unit {0}
IsMakeRefusal Access = ⊥
IsMakeRefusal BadPointer = ⊥
