use Rattle.std.proofs.Common.{refl}
use Rattle.counted_call.proofs.Raised.{counts_rose, asks_same}
use Rattle.counted_call.proofs.probe.TableProbeProbe.count.Goals as goal

pub returns-clause-told : goal.returns-clause-told
returns-clause-told c = (refl, refl, counts_rose _ _ c.args.counter c.args.step c.add.ensures, asks_same _, refl, refl)
