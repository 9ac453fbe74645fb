use Rattle.std.proofs.Common.{IfOk, subst}
use Rattle.instr_lower.proofs.Results.{from_made}
use Rattle.instr_lower.specs.Made.{IsMadeOf}
use Rattle.ir_tree.specs.declared.types.Module.{Module}
use Rattle.instr_lower.proofs.whole.lower.Goals as goal

pub returns-in-Counted-clause-unrefused : goal.returns-in-Counted-clause-unrefused
returns-in-Counted-clause-unrefused c = from_made c.args.«module».now c.lowered.result (subst (λ (m : Module). IfOk c.lowered.result (λ made. IsMadeOf m made)) c.«module».ensures.value c.lowered.ensures.made)
