-- Rule 8. The case values of a switch are distinct.
use Rattle.std.specs.Prelude.{List}
use Rattle.ir_rules.specs.Lists.{are_apart}
use Rattle.ir_rules.specs.Parts.{Rule, places, silent}
use Rattle.ir_rules.specs.declared.place.Place.{Place}
use Rattle.ir_tree.specs.Successors.{case_values}
use Rattle.ir_tree.specs.declared.types.Module.{Module}

abbrev pub cases : Rule
cases = record silent { exit = λ f b block. are_apart (case_values block.term) }

abbrev pub breaks_8 : Module → List Place
breaks_8 m = places cases m
