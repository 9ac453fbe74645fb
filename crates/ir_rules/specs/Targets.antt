-- Rule 7. Each label that a terminator names is a block's, and not the first one's.
use Rattle.std.specs.Prelude.{Bool, List, drop}
use Rattle.std.specs.List.{list_all}
use Rattle.ir_rules.specs.Lists.{is_among}
use Rattle.ir_rules.specs.Parts.{Rule, places, silent}
use Rattle.ir_rules.specs.declared.place.Place.{Place}
use Rattle.ir_tree.specs.Blocks.{labels}
use Rattle.ir_tree.specs.Successors.{successors}
use Rattle.ir_tree.specs.declared.types.Function.{Function}
use Rattle.ir_tree.specs.declared.types.Module.{Module}
use Rattle.ir_tree.specs.declared.types.Term.{Term}

abbrev pub names_targets : Function → Term → Bool
names_targets f t = list_all (λ to. is_among to (labels (drop 1 f.blocks))) (successors t)

abbrev pub targets : Rule
targets = record silent { exit = λ f b block. names_targets f block.term }

abbrev pub breaks_7 : Module → List Place
breaks_7 m = places targets m
