use Rattle.std.proofs.Common.{◌∙◌, sym, true, false}
use Rattle.lower_units.proofs.Arrays.{length_i8}
use Rattle.lower_units.proofs.held.length_of_i8.Goals as goal

pub returns-then-is_byte : goal.returns-then-is_byte
returns-then-is_byte c = length_i8 c.args.mem.now c.in-Array.count c.in-Array.element c.get.result.now true c.in-Array.is c.get.ensures (sym c.if-is_byte.true ∙ c.is_byte.ensures)

pub returns-else-is_byte : goal.returns-else-is_byte
returns-else-is_byte c = length_i8 c.args.mem.now c.in-Array.count c.in-Array.element c.get.result.now false c.in-Array.is c.get.ensures (sym c.if-is_byte.false ∙ c.is_byte.ensures)
