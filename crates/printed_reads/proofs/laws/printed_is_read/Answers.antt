use Rattle.std.proofs.Common.{arith}
use Rattle.canonical_text.specs.Canonical.{canonical}
use Rattle.printed_reads.proofs.laws.printed_is_read.Goals as goal

pub returns : goal.returns
returns c = record {
  spells = c.printed_spells.ensures;
  once = λ text m n h k. c.one_module.ensures (canonical m) m n (c.printed_spells.ensures text m h) k;
  no_syntax = λ text m at h r. r.2 m (c.printed_spells.ensures text m h);
  no_limit = λ m found e r. let more = r.1 in omega arith;
}
