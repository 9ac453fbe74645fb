-- The definitions at work, in numbers that a reader can check by hand.
use Rattle.std.specs.Prelude.{◌≡◌, true, false, [], ◌∷◌, ◌++◌, take, drop, replicate, Ok, Err, refl}
use Rattle.ir_memory.specs.declared.error.MemError.TheVariants.{Access, BadPointer}
use Rattle.ir_memory.specs.declared.value.Base.TheVariants.{Null, Function, Object}
use Rattle.ir_memory.specs.declared.value.Value.TheVariants.{Int, Pointer}
use Rattle.ir_memory.specs.Address.{address_of}
use Rattle.ir_memory.specs.Bytes.{low_bytes, number_of}
use Rattle.ir_memory.specs.Cell.{Byte}
use Rattle.ir_memory.specs.Contents.{pieces, value_in}
use Rattle.ir_memory.specs.Memory.{MemoryState, empty_memory, live_cells, made, dropped, loaded, stored}

-- 16 * 3 + 5, and 2 * 2 ^ 32 + 3
function_address : address_of (Function 2) 5 ≡ 53
function_address = refl

object_address : address_of (Object 1) 3 ≡ 8589934595
object_address = refl

-- 0x12345678
lowest_byte_first : low_bytes 4 305419896 ≡ 120 ∷ 86 ∷ 52 ∷ 18 ∷ []
lowest_byte_first = refl

bytes_back : number_of (120 ∷ 86 ∷ 52 ∷ 18 ∷ []) ≡ 305419896
bytes_back = refl

-- the pieces of a pointer are the pointer, or the bytes of its address
pieces_as_pointer : value_in true (pieces (Function 2) 5) ≡ Ok (Pointer (Function 2) 5)
pieces_as_pointer = refl

pieces_as_integer : value_in false (pieces (Function 2) 5) ≡ Ok (Int 53)
pieces_as_integer = refl

-- zero bytes are null, and pieces of two pointers are none
zeros_as_pointer : value_in true (replicate 8 (Byte 0)) ≡ Ok (Pointer Null 0)
zeros_as_pointer = refl

pieces_of_two : value_in true (take 4 (pieces (Function 2) 5) ++ drop 4 (pieces (Function 2) 6)) ≡ Err BadPointer
pieces_of_two = refl

-- a memory with an object without cells and a constant of two
abbrev two_objects : MemoryState
two_objects = made (made empty_memory 0 false) 2 true

counts_one_at_least : live_cells two_objects.live ≡ 3
counts_one_at_least = refl

loads_zero : loaded two_objects (Object 1) 0 2 false ≡ Ok (Int 0)
loads_zero = refl

outside : loaded two_objects (Object 1) 1 2 false ≡ Err Access
outside = refl

constant_refuses : stored two_objects (Object 1) 0 1 (Int 7) ≡ Err Access
constant_refuses = refl

-- the number 1 is gone, and 2 is the next one
ended : loaded (dropped two_objects 1) (Object 1) 0 2 false ≡ Err Access
ended = refl

next_number : (dropped two_objects 1).next ≡ 2
next_number = refl
