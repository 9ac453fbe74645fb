-- The numbers that the names of a module's functions and global variables stand for.
use Rattle.std.specs.Prelude.{ℕ, List, Option, Some, None}
use Rattle.ir_tree.specs.Functions.{function_number}
use Rattle.ir_tree.specs.declared.types.Module.{Module}
use Rattle.ir_model.specs.Values.{object_number}
use Rattle.ir_code.specs.declared.code.Input.{Input}
use Rattle.ir_code.specs.declared.code.Input.TheVariants.{Null, Function, Object}

abbrev pub object_input : Option ℕ → Input
object_input None = Null
object_input (Some i) = Object i

abbrev pub numbered_input : Option ℕ → Option ℕ → Input
numbered_input (Some k) object = Function k
numbered_input None object = object_input object

-- the address of a function or global variable, and null where a module has none of the name
abbrev pub symbol_input : Module → List ℕ → Input
symbol_input m name = numbered_input (function_number m name) (object_number m name)
