-- What the table of units has of one.
use Rattle.std.specs.Prelude.{ℕ, List, Option}
use Rattle.indexmap.specs.IndexMap.{get_by}
use Rattle.ir_tree.specs.Names.{same}
use Rattle.lower_units.specs.declared.table.Table.{Table}
use Rattle.lower_units.specs.declared.told.Told.{Told}

abbrev pub told_at : Table → List ℕ → Option Told
told_at table symbol = get_by (same symbol) table.told
