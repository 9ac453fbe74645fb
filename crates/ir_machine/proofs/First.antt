-- The memory that the images of a module's global variables make is the memory in which a call begins.
use Rattle.std.proofs.Common.{◌≡◌, ℕ, suc, ◌+◌, List, [], ◌∷◌, ◌++◌, length, map, sym, ◌∙◌, arith, append_assoc}
use Rattle.std.proofs.lemmas.List.{append-nil}
use Rattle.ir_tree.specs.declared.types.Global1.{Global1}
use Rattle.ir_tree.specs.declared.types.Module.{Module}
use Rattle.ir_memory.specs.Memory.{Allocation, MemoryState}
use Rattle.ir_memory.specs.declared.value.Value.{Value}
use Rattle.ir_model.specs.Initial.{global_object, global_objects, initial_memory}
use Rattle.ir_model.specs.Values.{objects, symbol_value}
use Rattle.ir_code.specs.Images.{image_of, made_all, memory_of, module_images}

abbrev state : ℕ → List Allocation → MemoryState
state next live = record { next = next; live = live }

module _ (symbol : List ℕ → Value) where
  made_images : (next : ℕ) (live : List Allocation) (gs : List Global1) → made_all (state next live) (map (image_of symbol) gs) ≡ state (next + length gs) (live ++ global_objects symbol next gs)
  made_images next live [] = let e : next ≡ next + 0 = omega arith in λ i. state (e i) (sym (append-nil live) i)
  made_images next live (g ∷ gs) =
      let e : next + 1 + length gs ≡ next + suc (length gs) = omega arith in
      made_images (next + 1) (live ++ global_object symbol next g ∷ []) gs
      ∙ (λ i. state (e i) (append_assoc live (global_object symbol next g ∷ []) (global_objects symbol (next + 1) gs) i))

pub first_memory_is : (m : Module) → memory_of (module_images m) ≡ initial_memory m
first_memory_is m =
    let gs : List Global1 = objects m.globals in
    let e : 0 + length gs ≡ length gs = omega arith in
    made_images (symbol_value m) 0 [] gs ∙ (λ i. state (e i) (global_objects (symbol_value m) 0 gs))
