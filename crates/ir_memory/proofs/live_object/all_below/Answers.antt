use Rattle.std.proofs.Common.{arith}
use Rattle.ir_memory.proofs.ObjectLemmas.{all_cut}
use Rattle.ir_memory.proofs.live_object.all_below.Goals as goal

pub returns-else-len-eq0 : goal.returns-else-len-eq0
returns-else-len-eq0 c = λ e. all_cut c.args.objects.now c.args.number _ c.requires (omega arith) e
