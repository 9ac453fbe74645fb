-- Values at the types of their places, and what the names of a module stand for.
use Rattle.std.specs.Prelude.{ℕ, ◌+◌, ◌-◌, ◌/◌, ◌%◌, ◌==◌, ◌||◌, ◌&&◌, nat_lt, Bool, not, if◌then◌else◌, List, filter, map, position, codes, length, Option, Some, None, unwrap_or}
use Rattle.ir_tree.specs.Functions.{begins_with, function_number, numbered}
use Rattle.ir_tree.specs.Names.{same}
use Rattle.ir_tree.specs.Types.{width_of}
use Rattle.ir_tree.specs.declared.types.Global1.{Global1}
use Rattle.ir_tree.specs.declared.types.Module.{Module}
use Rattle.ir_tree.specs.declared.types.Ty.{Ty}
use Rattle.ir_value.specs.Integer.{truncated}
use Rattle.ir_memory.specs.Address.{address_of}
use Rattle.ir_memory.specs.declared.value.Base.{Base}
use Rattle.ir_memory.specs.declared.value.Base.TheVariants.{Null, Function, Object}
use Rattle.ir_memory.specs.declared.value.Value.{Value}
use Rattle.ir_memory.specs.declared.value.Value.TheVariants.{Int, Pointer}

-- ---- a value as a number and as a pointer

-- an integer is itself, a pointer its address
abbrev pub as_number : Value → ℕ
as_number (Int n) = n
as_number (Pointer base offset) = address_of base offset

abbrev pub base_of : Value → Base
base_of (Int n) = Null
base_of (Pointer base offset) = base

abbrev pub offset_of : Value → ℕ
offset_of (Int n) = n
offset_of (Pointer base offset) = offset

-- ---- a value at the place of a type

-- the bits of a type; an address has 64
abbrev pub bits_of : Ty → ℕ
bits_of ty = unwrap_or (width_of ty) 64

-- A value read at a type, as a number: modulo 2 to the type's bits. In an accepted module it is the value itself, or the
-- pointer's address.
abbrev pub number_at : Ty → Value → ℕ
number_at ty v = truncated (bits_of ty) (as_number v)

abbrev pub at_width : Option ℕ → Value → Value
at_width None v = Pointer (base_of v) (truncated 64 (offset_of v))
at_width (Some w) v = Int (truncated w (as_number v))

-- the same as a value: an integer at an integer type, a pointer at a pointer type
abbrev pub at_type : Ty → Value → Value
at_type ty v = at_width (width_of ty) v

-- ---- names

-- the globals of a profile: the names of functions, their counters and their data
abbrev pub is_profile_global : List ℕ → Bool
is_profile_global name = begins_with (codes "__profn_") name || begins_with (codes "__profc_") name || begins_with (codes "__profd_") name

-- the globals that are objects in memory, by number
abbrev pub objects : List Global1 → List Global1
objects globals = filter (λ g. not (is_profile_global g.name)) globals

abbrev pub object_number : Module → List ℕ → Option ℕ
object_number m name = position (same name) (map (λ (g : Global1). g.name) (objects m.globals))

abbrev pub object_pointer : Option ℕ → Value
object_pointer None = Pointer Null 0
object_pointer (Some i) = Pointer (Object i) 0

abbrev pub symbol_pointer : Option ℕ → Option ℕ → Value
symbol_pointer (Some k) object = Pointer (Function k) 0
symbol_pointer None object = object_pointer object

-- the address of a function or global variable, and null where a module has none of the name
abbrev pub symbol_value : Module → List ℕ → Value
symbol_value m name = symbol_pointer (function_number m name) (object_number m name)

abbrev pub functions_of : Module → ℕ
functions_of m = length (numbered m.functions)

-- The number of the function at an address, of this many: function k lies at 16 * (k + 1)
abbrev pub function_at_address : ℕ → ℕ → Option ℕ
function_at_address count address =
    if (address % 16 == 0) && not (address == 0) && nat_lt (address / 16) (count + 1) then Some (address / 16 - 1) else None
