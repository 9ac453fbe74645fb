use Rattle.std.proofs.Common.{arith}
use Rattle.ir_memory.proofs.PackedLemmas.{sizes}
use Rattle.ir_memory.proofs.cells.Cells.len.Goals as goal

pub returns : goal.returns
returns c =
    let i = c.self.inside in
    let s = sizes i.pointers.items i.values.items i.tags.items c.args.self.now c.self.invariant c.self.view_is in
    omega arith
