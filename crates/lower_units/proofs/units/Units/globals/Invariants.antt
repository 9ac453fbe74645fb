use Rattle.std.proofs.Common.{◌≡◌, take}
use Rattle.lower_units.specs.Alone.{table_globals}
use Rattle.lower_units.specs.Table.{told_at}
use Rattle.lower_units.proofs.units.Units.globals.Given as goal

abbrev pub invariant-loop-g : goal.invariant-loop-g
invariant-loop-g l = l.made.items ≡ table_globals (told_at l.self.table) (take l.g-index l.self.«module».now.globals)
