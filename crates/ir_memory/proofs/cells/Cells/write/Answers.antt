use Rattle.std.proofs.Common.{sym, ap, ◌∙◌}
use Rattle.ir_memory.specs.Contents.{cells_of, overwritten}
use Rattle.ir_memory.proofs.ContentsLemmas.{low_cells}
use Rattle.ir_memory.proofs.cells.Cells.write.Goals as goal

pub returns-in_default : goal.returns-in_default
returns-in_default c =
    let x = c.args in
    let e = low_cells x.width c.in-Int.n c.to_le_bytes-bytes.result c.requires.width c.to_le_bytes-bytes.ensures in
    c.write_bytes-in_default.ensures ∙ ap (overwritten x.self.now x.at) (e ∙ ap (cells_of x.width) (sym c.in-Int.is))
