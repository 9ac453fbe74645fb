use Rattle.std.proofs.Common.{sym, ◌∙◌}
use Rattle.ir_check.proofs.Groups.{bare, noted}
use Rattle.ir_check.proofs.faults.first_in_declared.Goals as goal

pub returns-then-is_some : goal.returns-then-is_some
returns-then-is_some c = λ m. noted m c.args.k c.args.f.now c.requires.declared (sym c.is_some.ensures ∙ c.if-is_some.true)

pub returns : goal.returns
returns c = λ m. bare m c.args.k c.args.f.now c.requires.declared (sym c.is_some.ensures ∙ c.if-is_some.false)
