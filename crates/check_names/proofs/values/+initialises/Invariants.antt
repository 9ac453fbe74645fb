use Rattle.std.proofs.Common.{◌≡◌, true, take}
use Rattle.std.specs.List.{list_all}
use Rattle.ir_rules.specs.Initialisers.{initialises}
use Rattle.ir_tree.specs.declared.types.Init.{size-Init}
use Rattle.check_names.proofs.values.+initialises.Given as goal

abbrev pub decreases-initialises : goal.decreases-initialises
decreases-initialises l = size-Init l.init.now

abbrev pub invariant-loop-item : goal.invariant-loop-item
invariant-loop-item l = list_all (initialises l.element) (take l.item-index l.items) ≡ true
