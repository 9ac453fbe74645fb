-- The instructions that limits count.
use Rattle.std.specs.Prelude.{Bool}
use Rattle.ir_limits.specs.declared.counts.Tally.{Tally}
use Rattle.ir_limits.specs.declared.counts.Tally.TheVariants.{Results, Sites, Selects}
use Rattle.ir_rules.specs.Limits.{has_result}
use Rattle.ir_tree.specs.Graphs.{is_select, is_site}
use Rattle.ir_tree.specs.declared.types.Instr.{Instr}

abbrev pub is_counted : Tally → Instr → Bool
is_counted Results x = has_result x
is_counted Sites x = is_site x
is_counted Selects x = is_select x
