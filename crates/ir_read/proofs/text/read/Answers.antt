use Rattle.ir_read.proofs.text.read.Goals as goal

pub returns-then-text-gt-MOST_BYTES-clause-once : goal.returns-then-text-gt-MOST_BYTES-clause-once
returns-then-text-gt-MOST_BYTES-clause-once c = c.one_module.ensures c.args.text.now

pub returns-clause-once : goal.returns-clause-once
returns-clause-once c = c.one_module.ensures c.args.text.now
