-- Array types of the code.
use Rattle.std.proofs.Common.{◌≡◌, ℕ, Bool, sym, ap, ◌∙◌}
use Rattle.ir_rules.specs.Units.{is_i8, is_scalar, length_of}
use Rattle.ir_tree.specs.Types.{when}
use Rattle.ir_tree.specs.declared.types.MemTy.{MemTy}
use Rattle.ir_tree.specs.declared.types.MemTy.TheBlock.{shape-the_row-MemTy-0, hidden-the_row-MemTy-0}
use Rattle.ir_tree.specs.declared.types.MemTy.TheVariants as mem
use Rattle.ir_tree.specs.declared.types.Ty.TheVariants.{I64}
use Rattle.lower_units.specs.Made.{words}
use denote.Hole.Carrier

-- the length of an array of bytes
pub length_i8 : (m : MemTy) (n : ℕ) (e inner : MemTy) (t : Bool) → m ≡ mem.Array n e → inner ≡ e → t ≡ is_scalar is_i8 inner → when t n ≡ length_of is_i8 m
unfolding shape-the_row-MemTy-0 hidden-the_row-MemTy-0 Carrier.hidden
length_i8 m n e inner t is same_element test = (λ j. when (test j) n) ∙ (ap (λ (k : MemTy). when (is_scalar is_i8 k) n) same_element ∙ ap (length_of is_i8) (sym is))

-- an array of words
pub words_are : (n : ℕ) (e : MemTy) → e ≡ mem.Scalar I64 → mem.Array n e ≡ words n
unfolding shape-the_row-MemTy-0 hidden-the_row-MemTy-0 Carrier.hidden
words_are n e is = ap (λ (k : MemTy). mem.Array n k) is
