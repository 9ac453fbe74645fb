-- The names of a module and of a function, and what they stand for.
use Rattle.std.specs.Prelude.{ℕ, Bool, ◌&&◌, ◌||◌, not, List, ◌∷◌, ◌++◌, map, flat_map, filter_map}
use Rattle.ir_rules.specs.Kinds.{is_profile_variable, kind_of}
use Rattle.ir_rules.specs.Lists.{is_among}
use Rattle.ir_tree.specs.Functions.{is_profile_name}
use Rattle.ir_tree.specs.Operands.{Use, listed, result_names, result_of, term_operand}
use Rattle.ir_tree.specs.declared.types.Block.{Block}
use Rattle.ir_tree.specs.declared.types.Function.{Function}
use Rattle.ir_tree.specs.declared.types.Global1.{Global1}
use Rattle.ir_tree.specs.declared.types.Module.{Module}
use Rattle.ir_tree.specs.declared.types.Ret.{Ret}
use Rattle.ir_tree.specs.declared.types.Ret.TheVariants.{Value}
use Rattle.ir_tree.specs.declared.types.Term.{Term}
use Rattle.ir_tree.specs.declared.types.Ty.{Ty}

-- ---- a module

abbrev pub variables : Module → List (List ℕ)
variables m = map (λ (g : Global1). g.name) m.globals

abbrev pub function_names : Module → List (List ℕ)
function_names m = map (λ (f : Function). f.name) m.functions

-- the global variables and then the functions, each in the order of the text
abbrev pub symbols : Module → List (List ℕ)
symbols m = variables m ++ function_names m

-- a function with its types
abbrev pub Signature : Type 0
Signature = List ℕ × Ret × List Ty

abbrev pub signature : Function → Signature
signature f = (f.name, f.ret, map (λ p. p.0) f.params)

abbrev pub signatures : Module → List Signature
signatures m = map signature m.functions

-- a global variable or function of the profile
abbrev pub is_of_profile : Module → List ℕ → Bool
is_of_profile m name = (is_profile_variable (kind_of m.functions) name && is_among name (variables m)) || (is_profile_name name && is_among name (function_names m))

-- a global variable or function that the program itself has
abbrev pub is_program_symbol : Module → List ℕ → Bool
is_program_symbol m name = is_among name (symbols m) && not (is_of_profile m name)

-- ---- a function

abbrev pub param_names : Function → List (List ℕ)
param_names f = map (λ p. p.1) f.params

-- the label of a block and the results in it
abbrev pub block_names : Block → List (List ℕ)
block_names b = b.label ∷ result_names b.instrs

abbrev pub names : Function → List (List ℕ)
names f = param_names f ++ flat_map block_names f.blocks

-- the results in a block, with their types
abbrev pub block_values : Block → List (List ℕ × Ret)
block_values b = filter_map result_of b.instrs

-- the parameters and results, with their types
abbrev pub values : Function → List (List ℕ × Ret)
values f = map (λ p. (p.1, Value p.0)) f.params ++ flat_map block_values f.blocks

-- ---- a terminator

-- the operands that a terminator reads, at most one
abbrev pub term_reads : Term → List Use
term_reads t = listed (term_operand t)
