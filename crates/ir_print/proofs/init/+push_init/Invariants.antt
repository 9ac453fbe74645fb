use Rattle.std.proofs.Common.{◌≡◌, ◌++◌, drop}
use Rattle.ir_tree.specs.declared.types.Init.{size-Init}
use Rattle.text_pieces.specs.declared.stop.Stop.TheVariants as stops
use Rattle.text_pieces.specs.Pieces.{text_of}
use Rattle.text_pieces.specs.Lists.{items}
use Rattle.ir_print.proofs.Trees.{init_item}
use Rattle.ir_print.proofs.init.+push_init.Given as goal

abbrev pub decreases-push_init : goal.decreases-push_init
decreases-push_init l = size-Init l.init.now

abbrev pub invariant-loop-i : goal.invariant-loop-i
invariant-loop-i l =
    l.out.items ++ text_of (items (init_item l.element) stops.CloseBracket (drop l.i l.items)) ≡ l.initial.out.items ++ text_of (items (init_item l.element) stops.CloseBracket l.items)
