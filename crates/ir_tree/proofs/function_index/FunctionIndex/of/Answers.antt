use Rattle.std.proofs.Common.{◌≡◌, ℕ, ◌==◌, Bool, true, false, cond, List, [], ◌++◌, length, sym, ap, ◌∙◌}
use Rattle.std.specs.Map.{lookup}
use Rattle.spec_lists.specs.Each.{each}
use Rattle.ir_tree.specs.Locals.{Entry, param, block_locals, locals}
use Rattle.ir_tree.specs.Names.{same}
use Rattle.ir_tree.proofs.function_index.FunctionIndex.of.Goals as goal

pub returns-then-is_empty : goal.returns-then-is_empty
unfolding locals
returns-then-is_empty c name =
    let f = c.args.function.now in
    let e : (length f.blocks == 0) ≡ true = cc in
    let all : List Entry = each param 0 f.params ++ each block_locals 0 f.blocks in
    c.new-index.ensures name ∙ sym (ap (λ (t : Bool). lookup (same name) (cond t [] all)) e)

pub returns : goal.returns
unfolding locals
returns c name =
    let f = c.args.function.now in
    let e : (length f.blocks == 0) ≡ false = cc in
    let all : List Entry = each param 0 f.params ++ each block_locals 0 f.blocks in
    let parts : each param 0 c.as_slice-2.result.now ++ each block_locals 0 c.as_slice-3.result.now ≡ all = (λ i. each param 0 (c.as_slice-2.ensures i) ++ each block_locals 0 (c.as_slice-3.ensures i)) in
    let made = c.in_ok-add_blocks.ensures (each param 0 c.as_slice-2.result.now) (c.in_ok-add_params.ensures [] c.new-index.ensures) in
    made name ∙ ap (λ (es : List Entry). lookup (same name) es) parts ∙ sym (ap (λ (t : Bool). lookup (same name) (cond t [] all)) e)
