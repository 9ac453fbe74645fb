use Rattle.std.proofs.Common.{◌≡◌, ◌*◌, ◌^◌, drop}
use Rattle.flow_solve.specs.Nets.{pay_all, AreWithin}
use Rattle.flow_solve.proofs.nets.pay_counters.Given as goal

-- what is left gives the same
abbrev pub invariant-loop-c : goal.invariant-loop-c
invariant-loop-c l = record {
  paid : pay_all l.edges l.ends (drop l.c l.counted) (drop l.c l.counters) l.nets ≡ pay_all l.edges l.ends l.counted l.counters l.initial.nets;
  within : AreWithin (2 ^ 65 * l.c) l.nets;
}
