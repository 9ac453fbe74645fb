-- Array types by their counts and elements.
use Rattle.std.proofs.Common.{◌≡◌, ℕ, Bool, sym, ap, ◌∙◌}
use Rattle.ir_rules.specs.Sizes.{element_of}
use Rattle.ir_rules.specs.Units.{is_scalar, length_of}
use Rattle.ir_tree.specs.Types.{when}
use Rattle.ir_tree.specs.declared.types.MemTy.{MemTy}
use Rattle.ir_tree.specs.declared.types.MemTy.TheVariants as mem
use Rattle.ir_tree.specs.declared.types.MemTy.TheBlock.{shape-the_row-MemTy-0, hidden-the_row-MemTy-0}
use Rattle.ir_tree.specs.declared.types.Ty.{Ty}
use denote.Hole.Carrier

pub length_array : (test : Ty → Bool) (m : MemTy) (n : ℕ) (e inner : MemTy) (t : Bool) → m ≡ mem.Array n e → inner ≡ e → t ≡ is_scalar test inner → when t n ≡ length_of test m
unfolding shape-the_row-MemTy-0 hidden-the_row-MemTy-0 Carrier.hidden
length_array test m n e inner t is same_element told = (λ j. when (told j) n) ∙ (ap (λ (k : MemTy). when (is_scalar test k) n) same_element ∙ ap (length_of test) (sym is))

pub element_array : (m : MemTy) (n : ℕ) (e inner : MemTy) → m ≡ mem.Array n e → inner ≡ e → inner ≡ element_of m
unfolding shape-the_row-MemTy-0 hidden-the_row-MemTy-0 Carrier.hidden
element_array m n e inner is same_element = same_element ∙ ap element_of (sym is)
