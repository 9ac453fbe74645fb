use Rattle.ir_machine.proofs.Traced.{traced, traced_most}
use Rattle.ir_machine.proofs.trace.trace_call.Goals as goal

pub returns-clause-counts : goal.returns-clause-counts
returns-clause-counts c =
    traced c.count_call.result c.args.code.now c.args.call.now c.args.steps c.args.counts.now c.count_call.new.counts c.requires.valid c.count_call.ensures.counts c.requires.all c.requires.low c.requires.few

pub returns-clause-growth : goal.returns-clause-growth
returns-clause-growth c =
    traced_most c.count_call.result c.args.code.now c.args.call.now c.args.steps c.args.counts.now c.count_call.new.counts c.requires.valid c.count_call.ensures.counts
