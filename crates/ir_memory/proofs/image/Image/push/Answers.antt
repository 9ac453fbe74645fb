use Rattle.std.proofs.Common.{length, ap, ◌∙◌, ◌++◌}
use Rattle.ir_memory.specs.Contents.{cells_of, overwritten}
use Rattle.ir_memory.proofs.ContentsLemmas.{length-cells_of}
use Rattle.ir_memory.proofs.PackedLemmas.{written_behind}
use Rattle.ir_memory.proofs.image.Image.push.Goals as goal

pub returns : goal.returns
returns c =
    let new = cells_of c.args.width c.args.value in
    let n = length-cells_of c.args.width c.args.value c.requires.value in
    let l = ap length c.self.view_is in
    c.write.ensures ∙ ap (λ cs. overwritten cs c.len-at.result new) c.in_ok-push_zeros.ensures.ok
    ∙ written_behind c.self.inside.cells new c.args.width c.len-at.result c.len-at.ensures n
    ∙ ap (λ cs. cs ++ new) c.self.view_is
