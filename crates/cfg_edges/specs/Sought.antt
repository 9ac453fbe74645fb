-- The instructions of a block that a graph lists.
use Rattle.std.specs.Prelude.{Bool}
use Rattle.ir_tree.specs.Graphs.{is_select, is_site}
use Rattle.ir_tree.specs.declared.types.Instr.{Instr}
use Rattle.cfg_edges.specs.declared.places.Sought.{Sought}
use Rattle.cfg_edges.specs.declared.places.Sought.TheVariants.{Selects, Sites}

abbrev pub is_sought : Sought → Instr → Bool
is_sought Sites i = is_site i
is_sought Selects i = is_select i
