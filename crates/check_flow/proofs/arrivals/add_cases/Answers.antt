use Rattle.check_flow.specs.LookUps.{block_of}
use Rattle.check_flow.proofs.ArrivalLists.{gains_case, gains_one}
use Rattle.check_flow.proofs.arrivals.add_cases.Goals as goal

pub loop-case-init : goal.loop-case-init
loop-case-init c = gains_one (block_of c.args.known.now) c.args.p c.args.default.now c.args.lists.now c.add.new.lists c.in_ok-add.ensures

pub loop-case-preserved : goal.loop-case-preserved
loop-case-preserved c = gains_case (block_of c.args.known.now) c.args.p c.args.default.now c.args.cases.now c.loop-case.case-index c.case-item.result c.args.lists.now c.loop-case.lists c.add-in-loop-case.new.lists c.loop-case-test.true c.case-item.is c.loop-case.invariant c.in_ok-add-2.ensures
