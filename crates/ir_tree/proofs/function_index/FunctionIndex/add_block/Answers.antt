use Rattle.std.proofs.Common.{◌≡◌, List, [], ◌∷◌, ◌++◌, OnOk, subst, append_assoc, ap, ◌∙◌}
use Rattle.spec_lists.specs.Each.{each}
use Rattle.ir_tree.specs.FunctionNames.{IndexesEntries}
use Rattle.ir_tree.specs.Locals.{Entry, local, result_at, block_locals}
use Rattle.ir_tree.specs.declared.locals.LocalKind.TheVariants.{Label}
use Rattle.ir_tree.specs.declared.types.Instr.{Instr}
use Rattle.ir_tree.proofs.function_index.FunctionIndex.add_block.Goals as goal

pub returns : goal.returns
unfolding block_locals
returns c es made =
    let b = c.args.b in
    let label : Entry = (c.args.block.now.label, local Label b 0) in
    let results : List Entry = each (result_at b) 0 c.as_slice.result.now in
    let e : (es ++ label ∷ []) ++ results ≡ es ++ label ∷ each (result_at b) 0 c.args.block.now.instrs = append_assoc es (label ∷ []) results ∙ ap (λ (is : List Instr). es ++ label ∷ each (result_at b) 0 is) c.as_slice.ensures in
    let P : List Entry → Type 0 = λ zs. OnOk c.add_results.result (IndexesEntries c.add_results.new.self zs) in
    subst P e (c.add_results.ensures (es ++ label ∷ []) (c.in_ok-add.ensures es made))
