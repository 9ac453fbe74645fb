-- A module that has nothing but one function.
use Rattle.std.specs.Prelude.{◌≡◌, [], ◌∷◌}
use Rattle.ir_tree.specs.declared.types.Function.{Function}
use Rattle.ir_tree.specs.declared.types.Module.{Module}

pub record IsAlone (m : Module) (f : Function) : Type 0 where
  pub none : m.globals ≡ []
  pub only : m.functions ≡ f ∷ []
