-- The length of an array of 64-bit integers.
use Rattle.std.proofs.Common.{◌≡◌, ℕ, Bool, sym, ap, ◌∙◌}
use Rattle.ir_rules.specs.Units.{is_i64, is_scalar, length_of}
use Rattle.ir_tree.specs.Types.{when}
use Rattle.ir_tree.specs.declared.types.MemTy.{MemTy}
use Rattle.ir_tree.specs.declared.types.MemTy.TheVariants as mem
use Rattle.ir_tree.specs.declared.types.MemTy.TheBlock.{shape-the_row-MemTy-0, hidden-the_row-MemTy-0}
use denote.Hole.Carrier

pub length_i64 : (m : MemTy) (n : ℕ) (e inner : MemTy) (t : Bool) → m ≡ mem.Array n e → inner ≡ e → t ≡ is_scalar is_i64 inner → when t n ≡ length_of is_i64 m
unfolding shape-the_row-MemTy-0 hidden-the_row-MemTy-0 Carrier.hidden
length_i64 m n e inner t is same_element test = (λ j. when (test j) n) ∙ (ap (λ (k : MemTy). when (is_scalar is_i64 k) n) same_element ∙ ap (length_of is_i64) (sym is))
