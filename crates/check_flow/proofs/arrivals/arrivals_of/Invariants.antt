use Rattle.std.proofs.Common.{◌≡◌, ℕ, ◌<◌, length, take, vec_len}
use Rattle.check_flow.specs.LookUps.{block_of}
use Rattle.check_flow.specs.Phis.{arrivals, listed}
use Rattle.check_flow.proofs.arrivals.arrivals_of.Given as goal

abbrev pub invariant-loop-p : goal.invariant-loop-p
invariant-loop-p l = record {
  count : vec_len l.lists ≡ length l.blocks;
  each : (b : ℕ) → b < length l.blocks → listed l.lists b ≡ arrivals (block_of l.known) b (take l.p l.blocks);
}
