-- The same blocks in another order.
use Rattle.std.specs.Prelude.{◌≡◌, ℕ, List, [], ◌∷◌, slice_get}
use Rattle.ir_tree.specs.Blocks.{block_named}
use Rattle.ir_tree.specs.declared.types.Function.{Function}
use Rattle.ir_tree.specs.declared.types.Module.{Module}

-- the same first block, and the same block under each label
pub record IsReordered (f f' : Function) : Type 0 where
  pub name : f'.name ≡ f.name
  pub ret : f'.ret ≡ f.ret
  pub params : f'.params ≡ f.params
  pub first : slice_get f'.blocks 0 ≡ slice_get f.blocks 0
  pub named : (l : List ℕ) → block_named f'.blocks l ≡ block_named f.blocks l

abbrev pub AllReordered : List Function → List Function → Type 0
AllReordered [] [] = Unit {0}
AllReordered [] (f' ∷ fs') = ⊥
AllReordered (f ∷ fs) [] = ⊥
AllReordered (f ∷ fs) (f' ∷ fs') = IsReordered f f' × AllReordered fs fs'

-- the same globals, and function by function the same blocks
pub record AreReordered (m m' : Module) : Type 0 where
  pub globals : m'.globals ≡ m.globals
  pub functions : AllReordered m.functions m'.functions
