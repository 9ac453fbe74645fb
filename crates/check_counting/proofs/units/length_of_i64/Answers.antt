use Rattle.std.proofs.Common.{◌∙◌, sym, true, false}
use Rattle.check_counting.proofs.Lengths.{length_i64}
use Rattle.check_counting.proofs.units.length_of_i64.Goals as goal

pub returns-then-is_i64 : goal.returns-then-is_i64
returns-then-is_i64 c = length_i64 c.args.mem.now c.in-Array.count c.in-Array.element c.get.result.now true c.in-Array.is c.get.ensures (sym c.if-is_i64.true ∙ c.is_i64.ensures)

pub returns-else-is_i64 : goal.returns-else-is_i64
returns-else-is_i64 c = length_i64 c.args.mem.now c.in-Array.count c.in-Array.element c.get.result.now false c.in-Array.is c.get.ensures (sym c.if-is_i64.false ∙ c.is_i64.ensures)
