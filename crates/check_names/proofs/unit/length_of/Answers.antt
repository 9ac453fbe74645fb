use Rattle.std.proofs.Common.{◌∙◌, sym, true, false}
use Rattle.check_names.proofs.Arrays.{length_array}
use Rattle.check_names.specs.Told.{is_cell}
use Rattle.check_names.proofs.unit.length_of.Goals as goal

pub returns-then-is_scalar : goal.returns-then-is_scalar
returns-then-is_scalar c = length_array (is_cell c.args.cell) c.args.mem.now c.in-Array.count c.in-Array.element c.get.result.now true c.in-Array.is c.get.ensures (sym c.if-is_scalar.true ∙ c.is_scalar.ensures)

pub returns-else-is_scalar : goal.returns-else-is_scalar
returns-else-is_scalar c = length_array (is_cell c.args.cell) c.args.mem.now c.in-Array.count c.in-Array.element c.get.result.now false c.in-Array.is c.get.ensures (sym c.if-is_scalar.false ∙ c.is_scalar.ensures)
