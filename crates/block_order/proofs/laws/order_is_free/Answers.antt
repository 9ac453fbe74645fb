use Rattle.block_order.proofs.Runs.{run_same, signature_same}
use Rattle.block_order.proofs.laws.order_is_free.Goals as goal

pub returns-clause-runs : goal.returns-clause-runs
returns-clause-runs c m m' same_blocks call n = run_same m m' same_blocks call n

pub returns-clause-signatures : goal.returns-clause-signatures
returns-clause-signatures c m m' same_blocks k = signature_same m m' same_blocks k
