use Rattle.std.proofs.Common.{ℤ, w64, int_div, ap, ◌∙◌, arith, to_z, of_z}
use Rattle.ir_value.specs.Integer.{wrapped, signed_of}
use Rattle.ir_value.proofs.DivisionLemmas.{quotient_is, divided_is}
use Rattle.ir_value.proofs.divide.divide_signed.Goals as goal

pub returns : goal.returns
returns c =
    let a = c.args in
    let q = quotient_is a.width a.left a.right c.requires.width.0 c.requires.width.1 c.requires.left c.requires.right c.if-overflows.ensures in
    let e = c.wrap.ensures ∙ ap (λ (x : ℤ). wrapped a.width (to_z w64 (of_z w64 (int_div (to_z w64 (of_z w64 x)) (to_z w64 (of_z w64 c.signed-2.result)))))) c.signed.ensures
    ∙ ap (λ (x : ℤ). wrapped a.width (to_z w64 (of_z w64 (int_div (to_z w64 (of_z w64 (signed_of a.width a.left))) (to_z w64 (of_z w64 x)))))) c.signed-2.ensures
    ∙ ap (wrapped a.width) q in
    divided_is a.width a.left a.right c.wrap.result (int_div (signed_of a.width a.left) (signed_of a.width a.right)) (omega arith) c.if-overflows.ensures e
