use Rattle.std.proofs.Common.{◌≡◌, ◌++◌, drop}
use Rattle.std.specs.Prelude.{flat_map}
use Rattle.ir_tree.specs.declared.types.Init.{size-Init}
use Rattle.ir_model.specs.Initial.{init_cells}
use Rattle.ir_code.specs.Found.{value_in}
use Rattle.ir_code.proofs.images.+push_init.Given as goal

abbrev pub decreases-push_init : goal.decreases-push_init
decreases-push_init l = size-Init l.init.now

abbrev pub invariant-loop-one : goal.invariant-loop-one
invariant-loop-one l =
    l.cells ++ flat_map (init_cells (value_in l.symbols) l.element) (drop l.one-index l.one-items) ≡ l.initial.cells ++ init_cells (value_in l.symbols) l.mem l.init
