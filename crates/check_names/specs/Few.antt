-- What a module within its limits has few of: its places and names have numbers.
use Rattle.std.specs.Prelude.{◌≡◌, ℕ, ◌≤◌, length, Some, slice_get}
use Rattle.ir_rules.specs.Scopes.{names}
use Rattle.ir_tree.specs.declared.types.Function.{Function}
use Rattle.ir_tree.specs.declared.types.Module.{Module}

pub record IsFew (f : Function) : Type 0 where
  pub blocks : length f.blocks ≤ 2097152
  pub names : length (names f) ≤ 2101248

pub record HasFew (m : Module) : Type 0 where
  pub functions : length m.functions ≤ 65540
  pub globals : length m.globals ≤ 262144
  pub each : (k : ℕ) (f : Function) → slice_get m.functions k ≡ Some f → IsFew f
