use Rattle.std.proofs.Common.{◌≡◌, Option, IfOk, subst}
use Rattle.ir_tree.specs.declared.types.Instr.{Instr}
use Rattle.lowering.specs.Asked.{Asked}
use Rattle.lowering.specs.Lowered.{doing}
use Rattle.instr_lower.proofs.instrs.lowered_instr.Goals as goal

pub returns-in-Some : goal.returns-in-Some
returns-in-Some c = subst (λ (o : Option Asked). IfOk c.doing.result (λ (made : Instr). made ≡ doing c.args.instr.now o)) c.in-Some.ensures (c.doing.ensures c.args.instr.now)
