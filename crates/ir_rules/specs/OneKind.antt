-- Rule 2. A module is not of two kinds: it doesn't declare both the intrinsic for counters and the runtime's function for
-- call targets.
use Rattle.std.specs.Prelude.{Bool, ◌&&◌, not, List}
use Rattle.ir_rules.specs.Kinds.{declares_increments, declares_notes}
use Rattle.ir_rules.specs.Parts.{Rule, places, silent}
use Rattle.ir_rules.specs.declared.place.Place.{Place}
use Rattle.ir_tree.specs.declared.types.Module.{Module}

abbrev pub is_of_one_kind : Module → Bool
is_of_one_kind m = not (declares_increments m.functions && declares_notes m.functions)

abbrev pub one_kind : Module → Rule
one_kind m = record silent { whole = is_of_one_kind m }

abbrev pub breaks_2 : Module → List Place
breaks_2 m = places (one_kind m) m
