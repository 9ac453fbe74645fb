-- Functions, their numbers and their names.
use Rattle.std.specs.Prelude.{ℕ, Bool, true, false, ◌==◌, ◌||◌, not, List, [], ◌∷◌, map, filter, find, position, length, take, slice_get, codes, Option}
use Rattle.ir_tree.specs.Names.{same}
use Rattle.ir_tree.specs.declared.types.Function.{Function}
use Rattle.ir_tree.specs.declared.types.Module.{Module}

-- a function without blocks is declared
abbrev pub is_declared : Function → Bool
is_declared f = length f.blocks == 0

abbrev pub begins_with : List ℕ → List ℕ → Bool
begins_with front name = same front (take (length front) name)

-- The functions of the profile runtime and the intrinsics of instrumentation, by their names
unfoldable pub is_profile_name : List ℕ → Bool
is_profile_name name = begins_with (codes "llvm.instrprof.") name || begins_with (codes "__llvm_profile_") name

-- the functions that have a number: all but those of the profile runtime, from 0 on in text order
abbrev pub numbered : List Function → List Function
numbered functions = filter (λ f. not (is_profile_name f.name)) functions

abbrev pub function_at : Module → ℕ → Option Function
function_at m k = slice_get (numbered m.functions) k

-- the number of the first function of a name
abbrev pub function_number : Module → List ℕ → Option ℕ
function_number m name = position (same name) (map (λ f. f.name) (numbered m.functions))

-- the first function of a name, and its place in the module
abbrev pub function_named : List Function → List ℕ → Option Function
function_named functions name = find (λ f. same name f.name) functions

abbrev pub function_place : List Function → List ℕ → Option ℕ
function_place functions name = position (same name) (map (λ f. f.name) functions)

-- the name of the function that prints a number of 64 bits and a line feed
unfoldable pub print_name : List ℕ
print_name = codes "print_i64"
