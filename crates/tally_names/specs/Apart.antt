-- The names of tallies.
use Rattle.ir_code.specs.Units.{tallies_of}
use Rattle.ir_rules.specs.Accepted.{IsAccepted}
use Rattle.ir_tree.specs.declared.types.Module.{Module}
use Rattle.run_texts.specs.RunProfile.{AreApart}

-- no name is that of two tallies of an accepted module
abbrev pub TalliesHaveNames : Type 0
TalliesHaveNames = (m : Module) → IsAccepted m → AreApart (tallies_of m)
