-- What the global variables of a module hold at first, and the memory that begins so.
use Rattle.std.specs.Prelude.{ℕ, List, [], ◌∷◌, map}
use Rattle.ir_tree.specs.declared.types.Global1.{Global1}
use Rattle.ir_tree.specs.declared.types.Module.{Module}
use Rattle.ir_memory.specs.Image.{made_of}
use Rattle.ir_memory.specs.Memory.{MemoryState, empty_memory}
use Rattle.ir_memory.specs.declared.value.Value.{Value}
use Rattle.ir_model.specs.Initial.{init_cells}
use Rattle.ir_model.specs.Values.{objects, symbol_value}
use Rattle.ir_code.specs.declared.images.GlobalImage.{GlobalImage}

abbrev pub image_of : (List ℕ → Value) → Global1 → GlobalImage
image_of symbol g = record { constant = g.constant; cells = init_cells symbol g.mem g.init }

-- the images of the global variables that are objects
abbrev pub module_images : Module → List GlobalImage
module_images m = map (image_of (symbol_value m)) (objects m.globals)

-- one more object for each image
abbrev pub made_all : MemoryState → List GlobalImage → MemoryState
made_all memory [] = memory
made_all memory (i ∷ is) = made_all (made_of memory i.cells i.constant) is

abbrev pub memory_of : List GlobalImage → MemoryState
memory_of images = made_all empty_memory images
