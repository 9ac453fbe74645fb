use Rattle.std.proofs.Common.{arith}
use Rattle.prof_view.proofs.AgreeLemmas.{text_spelled, nothing_spelled}
use Rattle.prof_view.proofs.view.ProfileView.read.Goals as goal

pub returns-in-Ok-clause-spelled : goal.returns-in-Ok-clause-spelled
returns-in-Ok-clause-spelled c = text_spelled c.args.text.now c.in-Ok.view c.in-Ok.ensures

pub returns-in-Err-Syntax-clause-refused : goal.returns-in-Err-Syntax-clause-refused
returns-in-Err-Syntax-clause-refused c = (omega arith, nothing_spelled c.args.text.now (rw c.in-Err-Syntax.field-0-is at c.in-Err-Syntax.ensures))
