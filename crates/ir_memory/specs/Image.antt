-- An object that begins with given cells.
use Rattle.std.specs.Prelude.{◌+◌, Bool, List, [], ◌∷◌, ◌++◌}
use Rattle.ir_memory.specs.Cell.{Cell}
use Rattle.ir_memory.specs.Memory.{Allocation, MemoryState}

-- one more allocation, of these cells
abbrev pub made_of : MemoryState → List Cell → Bool → MemoryState
made_of m cells constant =
    let a : Allocation = record { number = m.next; constant = constant; cells = cells } in
    record { next = m.next + 1; live = m.live ++ a ∷ [] }
