use Rattle.std.proofs.Common.{◌≡◌, ℕ, take}
use Rattle.gen_code.specs.Tables.{at}
use Rattle.gen_plan.specs.Placing.{counter_of}
use Rattle.gen_code.proofs.tables.put_ranks.Given as goal

abbrev pub invariant-loop-rank : goal.invariant-loop-rank
invariant-loop-rank l = (k : ℕ) → at l.ranks k ≡ counter_of (take l.rank l.counted) k
