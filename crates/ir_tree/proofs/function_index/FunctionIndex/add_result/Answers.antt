use Rattle.std.proofs.Common.{◌≡◌, ℕ, List, ◌++◌, OnOk, Option, Some, subst, sym, ap, ◌∙◌}
use Rattle.ir_tree.specs.FunctionNames.{IndexesEntries}
use Rattle.ir_tree.specs.Locals.{as_result}
use Rattle.ir_tree.specs.Operands.{result_of}
use Rattle.ir_tree.specs.declared.types.Ret.{Ret}
use Rattle.ir_tree.proofs.function_index.FunctionIndex.add_result.Goals as goal

pub returns-in-Some : goal.returns-in-Some
returns-in-Some c es made =
    let e : Some (c.in-Some.name.now, c.in-Some.ret) ≡ result_of c.args.instr.now = cc in
    let P : Option (List ℕ × Ret) → Type 0 = λ o. OnOk c.add.result (IndexesEntries c.add.new.self (es ++ as_result c.args.b c.args.i o)) in
    subst P e (c.add.ensures es made)
