use Rattle.std.proofs.Common.{ℕ, ◌*◌, min, sym, ap, ◌∙◌}
use Rattle.ir_limits.proofs.Sizes.{product, size_array}
use Rattle.ir_rules.specs.Limits.{reported}
use Rattle.ir_rules.specs.Sizes.{size_of}
use Rattle.ir_tree.specs.declared.types.MemTy.{MemTy}
use Rattle.ir_limits.proofs.arrays.+size_of.Goals as goal

pub returns-in-Array : goal.returns-in-Array
returns-in-Array t c =
    c.saturating_mul.ensures
    ∙ (ap (λ (n : ℕ). min (c.in-Array.count * n) 18446744073709551615) (c.size_of.ensures ∙ ap (λ (m : MemTy). reported (size_of m)) c.get.ensures)
    ∙ (product c.in-Array.count (size_of c.in-Array.element)
    ∙ (sym (ap reported (size_array c.in-Array.count c.in-Array.element))
    ∙ sym (ap (λ (m : MemTy). reported (size_of m)) c.in-Array.is))))
