use Rattle.std.proofs.Common.{ℕ, ◌*◌, sym, ap, ◌∙◌}
use Rattle.ir_model.specs.Sizes.{size_of}
use Rattle.ir_code.proofs.Trees.{size_array}
use Rattle.ir_code.proofs.sizes.+size_of.Goals as goal

pub returns-in-Some : goal.returns-in-Some
returns-in-Some t c =
    c.in-Some.ensures.1
    ∙ ap (λ (n : ℕ). c.in-Array.count * n) (c.in_ok-size-in-Array.ensures ∙ ap size_of c.get.ensures)
    ∙ sym (size_array c.in-Array.count c.in-Array.element)
    ∙ sym (ap size_of c.in-Array.is)
