-- The memory in which a call begins: an object for each global variable, with its initial value.
use Rattle.std.specs.Prelude.{ℕ, ◌+◌, List, [], ◌∷◌, ◌++◌, length, map, replicate, Option, Some, None}
use Rattle.ir_tree.specs.declared.types.Global1.{Global1}
use Rattle.ir_tree.specs.declared.types.Init.{Init, List', Row_of-Init, end_of-Init, more_of-Init}
use Rattle.ir_tree.specs.declared.types.Init.TheVariants as init
use Rattle.ir_tree.specs.declared.types.MemTy.{MemTy}
use Rattle.ir_tree.specs.declared.types.Module.{Module}
use Rattle.ir_tree.specs.declared.types.Ty.{Ty}
use Rattle.ir_memory.specs.Cell.{Cell, Byte}
use Rattle.ir_memory.specs.Contents.{cells_of}
use Rattle.ir_memory.specs.Memory.{Allocation, MemoryState}
use Rattle.ir_memory.specs.declared.value.Base.TheVariants.{Null}
use Rattle.ir_memory.specs.declared.value.Value.{Value}
use Rattle.ir_memory.specs.declared.value.Value.TheVariants.{Int, Pointer}
use Rattle.ir_model.specs.Sizes.{bytes_of, element_of, scalar_of, size_of}
use Rattle.ir_model.specs.Values.{at_type, objects, symbol_value}

abbrev pub zeros : ℕ → List Cell
zeros size = replicate size (Byte 0)

-- what one value leaves in memory at a type; at an array, which no accepted module has, zeros
abbrev pub value_cells : MemTy → Option Ty → Value → List Cell
value_cells mem None v = zeros (size_of mem)
value_cells mem (Some ty) v = cells_of (bytes_of ty) (at_type ty v)

-- what an initialiser leaves in memory, where the names of symbols stand for these values
abbrev mutual
  pub init_cells : (List ℕ → Value) → MemTy → Init → List Cell
  init_cells symbol mem (init.Int n) = value_cells mem (scalar_of mem) (Int n)
  init_cells symbol mem init.Null = value_cells mem (scalar_of mem) (Pointer Null 0)
  init_cells symbol mem (init.Symbol name) = value_cells mem (scalar_of mem) (symbol name)
  init_cells symbol mem init.Zero = zeros (size_of mem)
  init_cells symbol mem (init.Bytes bytes) = map Byte bytes
  init_cells symbol mem (List' shape inits) = list_cells symbol (element_of mem) inits
  init_cells symbol mem init.External = []

  pub list_cells : {m : _} → (List ℕ → Value) → MemTy → Row_of-Init m → List Cell
  list_cells symbol mem end_of-Init = []
  list_cells symbol mem (more_of-Init value rest) = init_cells symbol mem value ++ list_cells symbol mem rest

abbrev pub global_object : (List ℕ → Value) → ℕ → Global1 → Allocation
global_object symbol number g = record { number = number; constant = g.constant; cells = init_cells symbol g.mem g.init }

abbrev pub global_objects : (List ℕ → Value) → ℕ → List Global1 → List Allocation
global_objects symbol number [] = []
global_objects symbol number (g ∷ gs) = global_object symbol number g ∷ global_objects symbol (number + 1) gs

-- the globals other than those of a profile, as objects from 0 on in the order of the text
abbrev pub initial_memory : Module → MemoryState
initial_memory m = record {
  next = length (objects m.globals);
  live = global_objects (symbol_value m) 0 (objects m.globals);
}
