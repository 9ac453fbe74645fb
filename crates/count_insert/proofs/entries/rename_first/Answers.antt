use Rattle.std.proofs.Common.{◌<◌, ◌∙◌, length, sym, arith}
use Rattle.ir_tree.specs.Phis.{rename_first}
use Rattle.count_insert.proofs.Turns.{renamed_here}
use Rattle.count_insert.proofs.entries.rename_first.Goals as goal

pub returns-then-eq : goal.returns-then-eq
returns-then-eq c =
    let within : c.loop-entry.entry-index < length c.loop-entry.entries = omega arith in
    renamed_here c.args.label.now c.args.other.now c.loop-entry.entries c.loop-entry.entry-index c.entry-item.result within (sym c.eq.ensures ∙ c.if-eq.true) c.in_ok-entry.field-0 c.in_ok-entry.ensures (rename_first c.args.label.now c.args.other.now c.args.entries.now) c.loop-entry.invariant
