-- No more was read than is asked for.
use Rattle.std.proofs.Common.{◌≤◌, vec_len}
use Rattle.pgo_base.proofs.file_store.read_first.Given as goal

abbrev pub invariant-reads : goal.invariant-reads
invariant-reads g l = vec_len l.bytes ≤ 16777217
