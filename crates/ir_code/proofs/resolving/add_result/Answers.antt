use Rattle.std.proofs.Common.{◌≡◌, ℕ, List, ◌++◌, Option, Some, OnOk, subst}
use Rattle.std.specs.Option.{option_map}
use Rattle.ir_tree.specs.Operands.{listed, result_of}
use Rattle.ir_tree.specs.declared.types.Ret.{Ret}
use Rattle.ir_code.specs.Names.{AreNumbered}
use Rattle.ir_code.proofs.resolving.add_result.Goals as goal

pub returns-in-Some : goal.returns-in-Some
returns-in-Some c names h =
    let e : Some (c.in-Some.name.now, c.in-Some._ret) ≡ result_of c.args.instr.now = cc in
    let P : Option (List ℕ × Ret) → Type 0 = λ o. OnOk c.add.result (AreNumbered c.add.new.self (names ++ listed (option_map (λ r. r.0) o))) in
    subst P e (c.add.ensures names h)
