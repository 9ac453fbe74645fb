use Rattle.std.proofs.Common.{◌≡◌, ◌-◌, ◌^◌, ◌<◌, drop, length}
use Rattle.ir_memory.specs.Bytes.{number_of}
use Rattle.ir_memory.proofs.bytes.each.Given as goal

-- the number of the bytes from here on
abbrev pub invariant-loop-k : goal.invariant-loop-k
invariant-loop-k l = record { value : l.n ≡ number_of (drop l.k l.bytes); fits : l.n < 256 ^ (length l.bytes - l.k) }
