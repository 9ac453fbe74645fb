-- When a module can be counted.
use Rattle.std.specs.Prelude.{◌≡◌, ℕ, suc, ◌<◌, ◌^◌, false, length, Some, slice_get}
use Rattle.count_likeness.specs.Formed.{AreFormed}
use Rattle.ir_model.specs.Values.{functions_of}
use Rattle.ir_tree.specs.Functions.{is_declared}
use Rattle.ir_tree.specs.Graphs.{HasGraph}
use Rattle.ir_tree.specs.Locals.{locals}
use Rattle.ir_tree.specs.declared.types.Function.{Function}
use Rattle.ir_tree.specs.declared.types.Module.{Module}

-- Its functions are formed, and the defined ones have graphs; functions and names are so few that addresses and the numbers of fresh
-- names fit 64 bits
pub record CanCount (m : Module) : Type 0 where
  pub formed : AreFormed m
  pub graphs : (j : ℕ) (f : Function) → slice_get m.functions j ≡ Some f → is_declared f ≡ false → HasGraph f
  pub few_functions : functions_of m < 2 ^ 60
  pub few_names : (j : ℕ) (f : Function) → slice_get m.functions j ≡ Some f → suc (length (locals f)) < 2 ^ 64
