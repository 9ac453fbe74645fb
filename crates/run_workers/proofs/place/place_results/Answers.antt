use Rattle.std.proofs.Common.{arith, refl}
use Rattle.std.proofs.lemmas.List.{nil_from_length}
use Rattle.run_workers.proofs.Places.{one_placed, all_placed}
use Rattle.run_workers.proofs.place.place_results.Goals as goal

pub loop-number-preserved : goal.loop-number-preserved
loop-number-preserved c = one_placed c.args.done.items c.loop-number.done.items c.pop.new.self.items c.loop-number.places c.in-Some.number c.in-Some.result c.in-Some.ensures.items c.loop-number.invariant _ refl

pub returns-clause-placed : goal.returns-clause-placed
returns-clause-placed c = all_placed c.args.done.items c.loop-number.done.items c.loop-number.places (nil_from_length c.loop-number.done.items (omega (arith, c.loop-number.done.ok.0, c.in_default.ensures.cases.0))) c.loop-number.invariant
